use Rattle.mpd_text.proofs.attributes.attributes_of.Given as goal
use Rattle.std.proofs.Common.{◌≡◌, ◌-◌, length}
use Rattle.mpd_text.specs.{Attributes.AreKnown, Keeping.{Stays, attributes_from, attributes_in}, Rests.IsEnd}
use Rattle.mpd_tree.specs.{Grammar.{attributes, next_attribute}, Productions.times}

abbrev pub invariant-loop : goal.invariant-loop
invariant-loop l = record {
  known : AreKnown l.kept l.names;
  from : l.names.from ≡ length (attributes_in l.fn.kept);
  stays : Stays l.fn.kept l.kept;
  left : IsEnd l.fn.kept.source.now l.rest;
  so_far : (times (next_attribute l.fn.kept.source.now) (l.end - l.counter) (attributes_from l.kept l.names.from) l.rest).read
      ≡ (attributes l.fn.kept.source.now l.bytes).read;
}

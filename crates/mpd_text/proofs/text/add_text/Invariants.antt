use Rattle.mpd_text.proofs.text.add_text.Given as goal
use Rattle.std.proofs.Common.{◌≡◌, ◌-◌}
use Rattle.std.specs.String.{string_bytes}
use Rattle.mpd_text.specs.Rests.{IsBehind}
use Rattle.mpd_tree.specs.{Grammar.{part, text}, Productions.times}

abbrev pub invariant-loop : goal.invariant-loop
invariant-loop l = record {
  so_far : (times (part l.marks l.stop) (l.end - l.counter) (string_bytes l.read) l.rest).read
      ≡ (text (string_bytes l.fn.read) l.marks l.stop l.bytes).read;
  left : IsBehind l.source l.rest;
}

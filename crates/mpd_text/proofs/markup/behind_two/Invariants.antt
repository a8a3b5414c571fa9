use Rattle.mpd_tree.specs.Grammar as grammar
use Rattle.mpd_text.proofs.markup.behind_two.Given as goal
use Rattle.std.proofs.Common.{◌≡◌, ◌+◌, length}

abbrev pub invariant-loop : goal.invariant-loop
invariant-loop l = record {
  left : length l.rest + l.counter ≡ length l.bytes;
  so_far : (grammar.behind_two l.one l.other l.rest).read ≡ (grammar.behind_two l.one l.other l.bytes).read;
}

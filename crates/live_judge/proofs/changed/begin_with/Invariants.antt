use Rattle.std.proofs.Common.{◌≡◌, ◌+◌, length, map, drop, bytes_eq}
use Rattle.std.specs.List.{starts_with}
use Rattle.live_meaning.specs.Known.{ids_of}
use Rattle.live_judge.proofs.changed.begin_with.Given as goal

abbrev pub invariant-loop-at : goal.invariant-loop-at
invariant-loop-at l = record {
  same : starts_with bytes_eq (map (λ section. section.id) l.rest) (drop l.at (ids_of l.known))
      ≡ starts_with bytes_eq (map (λ section. section.id) l.sections) (drop l.fn.place (ids_of l.known));
  count : l.at + length l.rest ≡ l.fn.place + length l.sections;
}

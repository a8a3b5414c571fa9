use Rattle.std.proofs.Common.{◌≡◌, length, map, bytes_eq}
use Rattle.std.specs.List.{list_any}
use Rattle.live_judge.proofs.changed.has_id.Given as goal

abbrev pub invariant-loop-section : goal.invariant-loop-section
invariant-loop-section l =
    list_any (bytes_eq l.id) (map (λ section. section.id) l.rest) ≡ list_any (bytes_eq l.id) (map (λ section. section.id) l.sections)

abbrev pub decreases-loop-section : goal.decreases-loop-section
decreases-loop-section l = length l.rest

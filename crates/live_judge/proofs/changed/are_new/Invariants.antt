use Rattle.std.proofs.Common.{◌≡◌, length, map, not, bytes_eq}
use Rattle.std.specs.List.{list_all, list_any}
use Rattle.live_meaning.specs.Known.{ids_of}
use Rattle.live_judge.proofs.changed.are_new.Given as goal

abbrev pub invariant-loop-section : goal.invariant-loop-section
invariant-loop-section l =
    list_all (λ id. not (list_any (bytes_eq id) (ids_of l.known))) (map (λ section. section.id) l.rest)
    ≡ list_all (λ id. not (list_any (bytes_eq id) (ids_of l.known))) (map (λ section. section.id) l.sections)

abbrev pub decreases-loop-section : goal.decreases-loop-section
decreases-loop-section l = length l.rest

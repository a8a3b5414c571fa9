use Rattle.std.proofs.Common.{◌≡◌, length, map}
use Rattle.mpd_rules.specs.Laws.{are_once}
use Rattle.live_judge.proofs.changed.are_once.Given as goal

abbrev pub invariant-loop-first : goal.invariant-loop-first
invariant-loop-first l = are_once (map (λ section. section.id) l.rest) ≡ are_once (map (λ section. section.id) l.sections)

abbrev pub decreases-loop-first : goal.decreases-loop-first
decreases-loop-first l = length l.rest

use Rattle.std.proofs.Common.{◌≡◌, drop}
use Rattle.publish_law.specs.Plans.{first_place, has_other_digits}
use Rattle.publish_law.proofs.plan.first_with_other_digits.Given as goal

abbrev pub invariant-loop-place : goal.invariant-loop-place
invariant-loop-place l = first_place has_other_digits l.place (drop l.place l.tracks) ≡ first_place has_other_digits 0 l.tracks

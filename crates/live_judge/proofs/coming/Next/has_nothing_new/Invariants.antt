use Rattle.live_judge.proofs.coming.Next.has_nothing_new.Given as goal
use Rattle.std.proofs.Common.{ℕ, ◌<◌}
use Rattle.live_judge.proofs.Counts.{IsQuietAt}

abbrev pub invariant-loop-track : goal.invariant-loop-track
invariant-loop-track l = (t : ℕ) → t < l.track → IsQuietAt l.self t

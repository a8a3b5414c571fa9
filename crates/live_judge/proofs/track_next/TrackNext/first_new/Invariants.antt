use Rattle.live_judge.proofs.Counts.{IsNoneNew}
use Rattle.live_judge.proofs.track_next.TrackNext.first_new.Given as goal

abbrev pub invariant-loop-section : goal.invariant-loop-section
invariant-loop-section l = IsNoneNew l.self l.section

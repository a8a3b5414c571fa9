use Rattle.std.proofs.Common.{◌≡◌, ◌≤◌, ◌<◌, ℕ, Some, true}
use Rattle.std.specs.Prelude.{slice_get}
use Rattle.live_meaning.specs.Segments.{Segment}
use Rattle.live_judge.specs.Blocks.{is_of, segments_in}
use Rattle.live_judge.proofs.track.LiveTrack.begin_of.Given as goal

abbrev pub invariant-loop-begin : goal.invariant-loop-begin
invariant-loop-begin l = record {
  rises : l.begin ≤ l.end;
  all : (i : ℕ) (x : Segment) → slice_get (segments_in l.self) i ≡ Some x → l.begin ≤ i → i < l.end → is_of l.place l.section x ≡ true;
}

abbrev pub decreases-loop-begin : goal.decreases-loop-begin
decreases-loop-begin l = l.begin

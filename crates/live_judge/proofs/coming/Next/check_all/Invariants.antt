use Rattle.std.proofs.Common.{◌≡◌, ◌≤◌, drop, map}
use Rattle.live_meaning.specs.Refusals.{counts_kept, over_in_all}
use Rattle.live_judge.specs.{Coming.coming_of, Shown.track_shown}
use Rattle.live_judge.proofs.coming.Next.check_all.Given as goal

abbrev pub invariant-loop-track : goal.invariant-loop-track
invariant-loop-track l = record {
  told : over_in_all 0 0 (counts_kept (coming_of l.self) 0 (map track_shown l.self.tracks.now))
      ≡ over_in_all l.track l.count (counts_kept (coming_of l.self) l.track (map track_shown (drop l.track l.self.tracks.now)));
  few : l.count ≤ 500000;
}

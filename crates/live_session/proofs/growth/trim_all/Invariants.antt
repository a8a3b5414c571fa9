use Rattle.live_session.proofs.growth.trim_all.Given as goal
use Rattle.std.proofs.Common.{◌≡◌, ℕ, All}
use Rattle.live_judge.{specs.declared.track.LiveTrack.LiveTrack, specs.Shown.track_shown}
use Rattle.live_session.{specs.Growth.trimmed, specs.Kept.AreSideBySide, proofs.Growing.AreChanged}

abbrev pub invariant-loop-track : goal.invariant-loop-track
invariant-loop-track l = record {
  trimmed : AreChanged (λ (i : ℕ) (x y : LiveTrack). track_shown y ≡ trimmed l.fn.standing (track_shown x)) l.fn.tracks.items l.tracks.items
      l.track;
  paired : All AreSideBySide l.tracks.items;
}

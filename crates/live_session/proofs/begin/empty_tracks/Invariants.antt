use Rattle.std.proofs.Common.{◌≡◌, All, map, replicate}
use Rattle.live_judge.specs.Shown.{track_shown}
use Rattle.live_session.specs.Kept.{AreSideBySide, empty_track}
use Rattle.live_session.proofs.begin.empty_tracks.Given as goal

abbrev pub invariant-loop-track : goal.invariant-loop-track
invariant-loop-track l = record {
  shown : map track_shown l.tracks.items ≡ replicate l._track empty_track;
  paired : All AreSideBySide l.tracks.items;
}

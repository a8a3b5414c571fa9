use Rattle.std.proofs.Common.{◌≡◌, drop}
use Rattle.comparison.specs.Comparing.{tracks_difference}
use Rattle.comparison.proofs.heads.tracks_difference.Given as goal

-- the tracks before this one are the same
abbrev pub invariant-loop-track : goal.invariant-loop-track
invariant-loop-track l = tracks_difference 0 l.mpd l.playlists ≡ tracks_difference l.track (drop l.track l.mpd) (drop l.track l.playlists)

use Rattle.std.proofs.Common.{◌≡◌, [], drop}
use Rattle.differences.specs.{Collecting.all_added, Heads.heads_from}
use Rattle.differences.proofs.heads.add_heads.Given as goal

-- what is found of the tracks before this one is added
abbrev pub invariant-loop-track : goal.invariant-loop-track
invariant-loop-track l = all_added l.initial.found (heads_from 0 l.mpd l.playlists)
    ≡ all_added l.found (heads_from l.track (drop l.track l.mpd) (drop l.track l.playlists))

abbrev pub invariant-loop-track-2 : goal.invariant-loop-track-2
invariant-loop-track-2 l = all_added l.initial.found (heads_from l.initial.track [] (drop l.initial.track l.playlists))
    ≡ all_added l.found (heads_from l.track [] (drop l.track l.playlists))

-- the names so far, with those of the tracks that are left behind them, are all
use Rattle.std.proofs.Common.{◌≡◌, [], drop, map}
use Rattle.hls_master.specs.SeenTracks.{track_seen}
use Rattle.bridge_pages.specs.Needs.{names_behind}
use Rattle.bridge_pages.proofs.needs.track_names.Given as goal

abbrev pub invariant-loop-track : goal.invariant-loop-track
invariant-loop-track l =
    names_behind l.place l.names (map track_seen (drop l.track-index l.tracks)) ≡ names_behind l.place [] (map track_seen l.tracks)

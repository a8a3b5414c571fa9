use Rattle.hls_master.proofs.track.tracks_of_sets.Given as goal
use Rattle.std.proofs.Common.{◌≡◌, ◌++◌, map, drop}
use Rattle.hls_master.specs.{SeenTags.variant_seen, SeenTracks.{mention_seen, track_seen}, Tracks.tracks_of_sets}

abbrev pub invariant-loop-number : goal.invariant-loop-number
invariant-loop-number l =
    map track_seen l.tracks ++ tracks_of_sets (map variant_seen l.variants) (map mention_seen l.firsts) l.number
    (map mention_seen (drop l.number l.sets))
    ≡ tracks_of_sets (map variant_seen l.variants) (map mention_seen l.firsts) 0 (map mention_seen l.sets)

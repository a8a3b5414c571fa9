use Rattle.hls_master.proofs.track.add_set.Given as goal
use Rattle.std.proofs.Common.{◌≡◌, ◌++◌, map, filter, take}
use Rattle.hls_master.specs.{SeenTags.variant_seen, SeenTracks.{mention_seen, track_seen}, Tracks.{same_set, track_of}}

abbrev pub invariant-loop-mention : goal.invariant-loop-mention
invariant-loop-mention l = map track_seen l.tracks
    ≡ map track_seen l.initial.tracks ++ map (track_of (map variant_seen l.variants) l.number)
    (filter (same_set (mention_seen l.set)) (map mention_seen (take l.mention-index l.firsts)))

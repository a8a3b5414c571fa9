use Rattle.hls_master.proofs.mention.has_set.Given as goal
use Rattle.std.proofs.Common.{◌≡◌, map, drop}
use Rattle.std.specs.List.{list_any}
use Rattle.hls_master.specs.{SeenTracks.mention_seen, Tracks.same_set}

abbrev pub invariant-loop-set : goal.invariant-loop-set
invariant-loop-set l = list_any (same_set (mention_seen l.mention)) (map mention_seen l.sets)
    ≡ list_any (same_set (mention_seen l.mention)) (map mention_seen (drop l.set-index l.sets))

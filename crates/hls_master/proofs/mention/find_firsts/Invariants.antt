use Rattle.hls_master.proofs.mention.find_firsts.Given as goal
use Rattle.std.proofs.Common.{◌≡◌, ◌≤◌, [], ◌++◌, length, map, drop}
use Rattle.hls_master.specs.{SeenTracks.mention_seen, Tracks.firsts_behind}

abbrev pub invariant-loop-mention : goal.invariant-loop-mention
invariant-loop-mention l = (length l.firsts.items ≤ 200)
    × (map mention_seen l.firsts.items ++ firsts_behind l.addresses (map mention_seen (drop l.mention-index l.mentions))
    ≡ firsts_behind [] (map mention_seen l.mentions))

use Rattle.hls_master.proofs.mention.first_of_sets.Given as goal
use Rattle.std.proofs.Common.{◌≡◌, [], map, drop}
use Rattle.hls_master.specs.{SeenTracks.mention_seen, Tracks.sets_behind}

abbrev pub invariant-loop-mention : goal.invariant-loop-mention
invariant-loop-mention l = sets_behind (map mention_seen l.sets.items) (map mention_seen (drop l.mention-index l.ordered))
    ≡ sets_behind [] (map mention_seen l.ordered)

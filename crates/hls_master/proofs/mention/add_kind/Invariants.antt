use Rattle.hls_master.proofs.mention.add_kind.Given as goal
use Rattle.std.proofs.Common.{◌≡◌, ◌++◌, map, filter, take}
use Rattle.hls_master.specs.{SeenTracks.mention_seen, Tracks.has_kind}

abbrev pub invariant-loop-mention : goal.invariant-loop-mention
invariant-loop-mention l = map mention_seen l.ordered.items ≡ map mention_seen l.initial.ordered.items
    ++ filter (has_kind l.kind) (map mention_seen (take l.mention-index l.firsts))

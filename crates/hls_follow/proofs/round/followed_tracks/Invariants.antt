use Rattle.hls_follow.proofs.round.followed_tracks.Given as goal
use Rattle.std.proofs.Common.{◌≡◌, ◌++◌}
use Rattle.std.specs.Vec.Iter.{into_iter_items, into_iter_len}
use Rattle.hls_follow.specs.Rounds.{tracks_by}

abbrev pub invariant-loop-media : goal.invariant-loop-media
invariant-loop-media l = l.tracks ++ tracks_by l.flags (into_iter_items l.left) (into_iter_items l.rest)
    ≡ tracks_by l.fn.flags l.fn.medias l.fn.times

abbrev pub decreases-loop-media : goal.decreases-loop-media
decreases-loop-media l = into_iter_len l.left

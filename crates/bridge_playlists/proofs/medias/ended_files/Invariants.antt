use Rattle.std.proofs.Common.{◌≡◌, ◌++◌, map}
use Rattle.std.specs.Vec.Iter.{into_iter_items, into_iter_len}
use Rattle.bridge_playlists.specs.Playlists.{ended}
use Rattle.bridge_playlists.proofs.medias.ended_files.Given as goal

abbrev pub invariant-loop-media : goal.invariant-loop-media
invariant-loop-media l = l.ended ++ map ended (into_iter_items l.rest) ≡ map ended l.fn.files

abbrev pub decreases-loop-media : goal.decreases-loop-media
decreases-loop-media l = into_iter_len l.rest

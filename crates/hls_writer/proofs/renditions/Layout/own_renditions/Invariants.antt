use Rattle.std.proofs.Common.{◌≡◌, ◌++◌, drop, map}
use Rattle.hls_writer.specs.{LaidOut.laid, Renditions.own_rendition}
use Rattle.hls_writer.proofs.renditions.Layout.own_renditions.Given as goal

abbrev pub invariant-loop-place : goal.invariant-loop-place
invariant-loop-place l = l.found.items ++ map (own_rendition (laid l.self)) (drop l.place-index l.place-items)
    ≡ map (own_rendition (laid l.self)) l.place-items

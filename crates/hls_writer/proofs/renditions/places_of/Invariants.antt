use Rattle.std.proofs.Common.{◌≡◌, drop, []}
use Rattle.hls_writer.specs.Renditions.{places_from}
use Rattle.hls_writer.proofs.renditions.places_of.Given as goal

abbrev pub invariant-loop-place : goal.invariant-loop-place
invariant-loop-place l = places_from l.kind l.places.items l.place (drop l.place l.tracks) ≡ places_from l.kind [] 0 l.tracks

use Rattle.std.proofs.Common.{◌≡◌, drop}
use Rattle.hls_writer.specs.Variants.{greatest_from}
use Rattle.hls_writer.proofs.variants.greatest.Given as goal

abbrev pub invariant-loop-place : goal.invariant-loop-place
invariant-loop-place l = greatest_from l.tracks l.most (drop l.place-index l.places) ≡ greatest_from l.tracks 0 l.places

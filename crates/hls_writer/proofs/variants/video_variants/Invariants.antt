use Rattle.std.proofs.Common.{◌≡◌, ◌++◌, drop}
use Rattle.hls_writer.specs.Variants.{video_variants}
use Rattle.hls_writer.proofs.variants.video_variants.Given as goal

abbrev pub invariant-loop-place : goal.invariant-loop-place
invariant-loop-place l = l.found.items ++ video_variants (drop l.place-index l.videos) l.choices ≡ video_variants l.videos l.choices

use Rattle.std.proofs.Common.{◌≡◌, ◌++◌, drop, map}
use Rattle.hls_writer.specs.Variants.{video_variant}
use Rattle.hls_writer.proofs.variants.add_group.Given as goal

abbrev pub invariant-loop-place : goal.invariant-loop-place
invariant-loop-place l = l.found.items ++ map (λ place. video_variant place l.group) (drop l.place-index l.videos)
    ≡ l.initial.found.items ++ map (λ place. video_variant place l.group) l.videos

use Rattle.std.proofs.Common.{◌≡◌, ◌++◌, drop, map}
use Rattle.hls_presentation.specs.Views.{source_of}
use Rattle.hls_follow.specs.Stretches.{stretches_of_all}
use Rattle.hls_follow.proofs.stretches.stretches_of_all.Given as goal

abbrev pub invariant-loop-place : goal.invariant-loop-place
invariant-loop-place l = l.all.items ++ stretches_of_all l.formers l.place (map source_of (drop l.place l.kept))
    ≡ stretches_of_all l.formers 0 (map source_of l.kept)

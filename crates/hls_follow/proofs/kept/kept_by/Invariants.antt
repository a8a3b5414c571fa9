use Rattle.std.proofs.Common.{◌≡◌, ◌++◌, drop, map}
use Rattle.hls_presentation.specs.Views.{source_of}
use Rattle.hls_follow.specs.Kept.{kept_by}
use Rattle.hls_follow.proofs.kept.kept_by.Given as goal

abbrev pub invariant-loop-source : goal.invariant-loop-source
invariant-loop-source l = map source_of l.kept.items ++ kept_by l.flags (map source_of (drop l.source-index l.sources))
    ≡ kept_by l.fn.flags (map source_of l.sources)

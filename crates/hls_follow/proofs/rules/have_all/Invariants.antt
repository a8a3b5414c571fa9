use Rattle.std.proofs.Common.{◌≡◌, drop, map}
use Rattle.std.specs.List.{list_all}
use Rattle.hls_presentation.specs.Views.{source_of}
use Rattle.hls_follow.specs.Rules.{has_sections}
use Rattle.hls_follow.proofs.rules.have_all.Given as goal

abbrev pub invariant-loop-source : goal.invariant-loop-source
invariant-loop-source l = list_all (has_sections l.sections) (map source_of (drop l.source-index l.kept))
    ≡ list_all (has_sections l.sections) (map source_of l.kept)

use Rattle.std.proofs.Common.{◌≡◌, drop, map}
use Rattle.hls_presentation.specs.Views.{source_of}
use Rattle.hls_follow.specs.Rules.{judged_all, judged_section}
use Rattle.hls_follow.proofs.rules.check_sections.Given as goal

abbrev pub invariant-loop-source : goal.invariant-loop-source
invariant-loop-source l = record {
  place : l.place ≡ l.source-index;
  told : judged_all judged_section l.formers l.place (map source_of (drop l.source-index l.kept))
      ≡ judged_all judged_section l.formers 0 (map source_of l.kept);
}

use Rattle.std.proofs.Common.{◌≡◌, ◌+◌, ◌≤◌, drop, map}
use Rattle.hls_presentation.specs.Views.{source_of}
use Rattle.hls_follow.specs.Rules.{appended_from, count_of}
use Rattle.hls_follow.proofs.rules.appended_by.Given as goal

abbrev pub invariant-loop-source : goal.invariant-loop-source
invariant-loop-source l = record {
  place : l.place ≡ l.source-index;
  told : l.count + appended_from l.formers l.place (map source_of (drop l.source-index l.kept))
      ≡ appended_from l.formers 0 (map source_of l.kept);
  few : l.count + count_of (map source_of (drop l.source-index l.kept)) ≤ count_of (map source_of l.kept);
}

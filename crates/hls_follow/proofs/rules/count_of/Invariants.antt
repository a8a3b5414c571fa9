use Rattle.std.proofs.Common.{◌≡◌, ◌*◌, ◌^◌, ◌≤◌, map, take}
use Rattle.hls_presentation.specs.Views.{source_of}
use Rattle.hls_follow.specs.Rules.{count_of}
use Rattle.hls_follow.proofs.rules.count_of.Given as goal

abbrev pub invariant-loop-source : goal.invariant-loop-source
invariant-loop-source l = record {
  sum : l.count ≡ count_of (map source_of (take l.source-index l.kept));
  bounded : l.count ≤ l.source-index * 2 ^ 64;
}

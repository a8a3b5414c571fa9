use Rattle.hls_follow.proofs.times.time_all.Given as goal
use Rattle.std.proofs.Common.{◌≡◌, drop, length, map}
use Rattle.hls_presentation.specs.Views.{source_of}
use Rattle.hls_follow.specs.{Faults.behind, Times.timed_all}

abbrev pub invariant-loop-source : goal.invariant-loop-source
invariant-loop-source l = record {
  place : l.place ≡ l.source-index;
  all : length l.all ≡ l.source-index;
  told : behind l.all (timed_all l.formers l.place (map source_of (drop l.source-index l.kept)))
      ≡ timed_all l.formers 0 (map source_of l.kept);
}

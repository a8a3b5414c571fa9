use Rattle.std.proofs.Common.{◌≡◌, ◌+◌, length}
use Rattle.std.specs.List.{All}
use Rattle.hls_media.specs.Laws.{IsBounded}
use Rattle.bridge_reach.specs.Rounds.{medias_behind, medias_of}
use Rattle.bridge_reach.proofs.rounds.medias_of.Given as goal

abbrev pub invariant-loop-url : goal.invariant-loop-url
invariant-loop-url l = record {
  read : medias_behind l.medias l.urls l.bodies ≡ medias_of l.fn.urls l.fn.bodies;
  one_each : length l.bodies ≡ length l.urls;
  count : length l.medias + length l.urls ≡ length l.fn.urls;
  bounded : All IsBounded l.medias;
}

abbrev pub decreases-loop-url : goal.decreases-loop-url
decreases-loop-url l = length l.urls

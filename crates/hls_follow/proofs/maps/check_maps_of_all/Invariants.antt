use Rattle.std.proofs.Common.{◌≡◌, drop, map}
use Rattle.hls_presentation.specs.Views.{source_of}
use Rattle.hls_follow.specs.Maps.{judged_maps_of_all}
use Rattle.hls_follow.proofs.maps.check_maps_of_all.Given as goal

abbrev pub invariant-loop-source : goal.invariant-loop-source
invariant-loop-source l = record {
  place : l.place ≡ l.source-index;
  told : judged_maps_of_all l.periods l.place (map source_of (drop l.source-index l.kept))
      ≡ judged_maps_of_all l.periods 0 (map source_of l.kept);
}

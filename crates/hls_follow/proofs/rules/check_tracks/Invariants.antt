use Rattle.std.proofs.Common.{◌≡◌, drop, map}
use Rattle.hls_presentation.specs.Views.{source_of}
use Rattle.hls_follow.specs.Rules.{judged_segments}
use Rattle.hls_follow.proofs.rules.check_tracks.Given as goal

abbrev pub invariant-loop-source : goal.invariant-loop-source
invariant-loop-source l = judged_segments (map source_of (drop l.source-index l.kept)) ≡ judged_segments (map source_of l.kept)

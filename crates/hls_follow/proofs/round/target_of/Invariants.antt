use Rattle.std.proofs.Common.{◌≡◌, drop, map, max}
use Rattle.hls_presentation.specs.Views.{source_of}
use Rattle.hls_follow.specs.Rounds.{target_of}
use Rattle.hls_follow.proofs.round.target_of.Given as goal

abbrev pub invariant-loop-source : goal.invariant-loop-source
invariant-loop-source l = max l.target (target_of (map source_of (drop l.source-index l.kept))) ≡ target_of (map source_of l.kept)

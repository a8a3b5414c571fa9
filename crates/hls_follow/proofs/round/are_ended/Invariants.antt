use Rattle.std.proofs.Common.{◌≡◌, drop, map}
use Rattle.hls_presentation.specs.Views.{source_of}
use Rattle.hls_follow.specs.Rounds.{are_ended}
use Rattle.hls_follow.proofs.round.are_ended.Given as goal

abbrev pub invariant-loop-source : goal.invariant-loop-source
invariant-loop-source l = are_ended (map source_of (drop l.source-index l.kept)) ≡ are_ended (map source_of l.kept)

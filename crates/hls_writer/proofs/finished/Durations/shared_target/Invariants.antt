use Rattle.std.proofs.Common.{◌≡◌, ◌^◌, drop}
use Rattle.hls_writer.specs.Finished.{greatest_from, own_target, shared_target}
use Rattle.hls_writer.proofs.finished.Durations.shared_target.Given as goal

abbrev pub invariant-loop-place : goal.invariant-loop-place
invariant-loop-place l =
    greatest_from (own_target l.self.presentation.now (10 ^ l.self.digits)) l.most l.place (drop l.place l.tracks)
    ≡ shared_target l.self.presentation.now (10 ^ l.self.digits)

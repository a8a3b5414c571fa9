use Rattle.std.proofs.Common.{◌≡◌, drop}
use Rattle.std.specs.Prelude.{flat_map}
use Rattle.mpd_rules.specs.Rules.{silence_told}
use Rattle.mpd_rules.proofs.passes.check_each.Given as goal

abbrev pub invariant-loop-period : goal.invariant-loop-period
invariant-loop-period g l = flat_map silence_told (drop l.period-index l.periods) ≡ flat_map silence_told l.periods

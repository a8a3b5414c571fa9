use Rattle.mpd_presentation.proofs.checks.has_more_periods.Given as goal
use Rattle.std.proofs.Common.{◌≡◌, ◌+◌, length}
use Rattle.mpd_presentation.specs.Rows.{all_left}

abbrev pub invariant-loop-passed : goal.invariant-loop-passed
invariant-loop-passed l = l._passed + length (all_left l.periods) ≡ length (all_left l.fn.periods)

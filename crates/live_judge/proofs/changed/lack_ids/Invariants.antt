use Rattle.live_judge.proofs.changed.lack_ids.Given as goal
use Rattle.std.proofs.Common.{◌≡◌, length}
use Rattle.mpd_rules.specs.Views.{periods_left, segments_mpd}
use Rattle.live_meaning.specs.Refusals.{lack_ids}
use Rattle.live_judge.proofs.Changing.{lacks}

abbrev pub invariant-loop-period : goal.invariant-loop-period
invariant-loop-period l = lacks (periods_left l.periods) ≡ lack_ids (segments_mpd l.mpd)

abbrev pub decreases-loop-period : goal.decreases-loop-period
decreases-loop-period l = length (periods_left l.periods)

use Rattle.live_judge.proofs.changed.lack_ids.Goals as goal
use Rattle.std.proofs.Common.{◌∙◌, ap, sym}
use Rattle.live_judge.proofs.Changing.{lacks, lacks_with}

pub loop-period-init : goal.loop-period-init
loop-period-init c = ap lacks c.periods-periods.ensures.periods ∙ sym (lacks_with _ c.args.mpd.now.values.periods)

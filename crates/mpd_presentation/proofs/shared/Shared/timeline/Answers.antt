use Rattle.mpd_presentation.proofs.shared.Shared.timeline.Goals as goal
use Rattle.timeline.specs.MediaTimelines.{LaysOut}
use Rattle.presentation.proofs.Rests.{looked_up}

pub returns-in-Some : goal.returns-in-Some
returns-in-Some c = λ timelines are.
    looked_up LaysOut timelines c.args.self.now.timelines.items c.args.key c.in-Some.key c.timeline_at.result c.in-Some.is
    c.timeline_at.ensures are

use Rattle.timeline.proofs.runs.Runs.is_open.Goals as goal
use Rattle.timeline.specs.{Kept.runs_of, RunSegments.all_extents}
use Rattle.timeline.proofs.SegmentTimelineLemmas.{is_open-parts}

pub returns : goal.returns
returns c =
    cc (c.is_some.ensures, is_open-parts (all_extents (runs_of c.self.inside)) c.self.inside.endless, c.self.view_is)

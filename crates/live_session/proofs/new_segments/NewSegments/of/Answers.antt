use Rattle.live_session.proofs.new_segments.NewSegments.of.Goals as goal
use Rattle.std.proofs.Common.{◌∙◌, ◌^◌, ap}
use Rattle.timeline.specs.Listed.{expansion}
use Rattle.presentation.specs.{Kept.rounding_at, Presented.listed_in}
use Rattle.live_session.proofs.Paced.{datable, paced_as}

pub invariant_of-result : goal.invariant_of-result
invariant_of-result c = let listed = listed_in c.args.window.now c.args.runs.now in
    let left = c.resume.ensures.segments ∙ c.begin_at-cursor.ensures in
    record {
      paced = paced_as c.args.end c.args.behind (10 ^ c.args.digits) listed c.resume.result.left c.rounder_at.result left
          (c.rounder_at.ensures ∙ ap (rounding_at c.args.behind (10 ^ c.args.digits)) c.begin_at-cursor.ensures)
          c.resume.ensures.paced c.resume.ensures.limits c.requires.goes_on;
      datable = datable c.args.end c.args.window.now
          (expansion c.args.runs.now c.args.window.now) c.resume.result.left left c.resume.ensures.limits;
    }

use Rattle.url_parts.proofs.ReadAlike.{step_read}
use Rattle.url_parts.proofs.alike.without_detours.Goals as goal

pub loop-segment-preserved : goal.loop-segment-preserved
loop-segment-preserved c = (
  step_read _ _ _ _ _ _ c.in-Some.ensures c.loop-segment.invariant.0 (c.in_ok-add_segment.ensures.alike),
  c.in_ok-add_segment.ensures.open,
)

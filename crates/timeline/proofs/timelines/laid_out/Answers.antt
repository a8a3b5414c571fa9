use Rattle.timeline.proofs.timelines.laid_out.Goals as goal
use Rattle.timeline.specs.MediaTimelines.{expansion_of_laid}
use Rattle.timeline.proofs.{Laid.from_fault, Reached.{fault_so_far, so_far_more}}

pub returns-in_err-add_entry : goal.returns-in_err-add_entry
returns-in_err-add_entry c =
    from_fault c.from_residual-in_err-add_entry.result c.in_err-add_entry.field-0.0 _ _ c.from_residual-in_err-add_entry.ensures
    (fault_so_far c.args.scale c.args.end.now (expansion_of_laid c.args.scale c.args.end.now c.args.timeline.now) c.loop-entry.builder
    c.loop-entry.rest.now c.in-Some.entry.now c.in-Some.later.now
    c.in_err-add_entry.field-0.0 c.loop-entry.invariant c.in-Some.ensures.cases.0
    c.in_err-add_entry.ensures.members)

pub loop-entry-init : goal.loop-entry-init
loop-entry-init c = c.in_ok-builder.ensures c.args.end.now

pub loop-entry-preserved : goal.loop-entry-preserved
loop-entry-preserved c =
    so_far_more c.args.scale c.args.end.now (expansion_of_laid c.args.scale c.args.end.now c.args.timeline.now) c.loop-entry.builder
    c.add_entry.new.builder c.loop-entry.rest.now c.in-Some.entry.now c.in-Some.later.now c.loop-entry.invariant c.in-Some.ensures.cases.0
    c.in_ok-add_entry.ensures.members c.add_entry.ensures.limits c.in_ok-add_entry.ensures.laid c.in_ok-add_entry.ensures.goes_on
    c.in_ok-add_entry.ensures.former

use Rattle.timeline.proofs.timelines.add_entry.Goals as goal
use Rattle.std.proofs.Common.{ℕ, ap, ◌∙◌}
use Rattle.timeline.specs.{Timelines.extent_from, Reaches.start_of}
use Rattle.timeline.proofs.{Laid.from_fault, Reached.{IsFaultOf-short, extent_in-from, members_nowhere}}

pub returns-in_err-judge-in-Nowhere-clause-members : goal.returns-in_err-judge-in-Nowhere-clause-members
returns-in_err-judge-in-Nowhere-clause-members c =
    let old = c.args.builder.now in
    let same = extent_in-from c.args.scale old.limits c.start_of-start.result c.args.entry.now.d c.requires.limits in
    from_fault c.from_residual.result c.in_err-judge-in-Nowhere.field-0.0 _ _ c.from_residual.ensures
    (IsFaultOf-short old (extent_from c.args.scale c.start_of-start.result c.args.entry.now.d) _ c.in_err-judge-in-Nowhere.field-0.0
    (members_nowhere c.args.scale c.args.end.now old.former c.args.entry.now c.args.later.now c.start_of-start.result
    (c.start_of-start.ensures.value ∙ ap (λ (n : ℕ). start_of n c.args.entry.now) c.former.ensures) c.in-Nowhere.ensures)
    (cc (c.in_err-judge-in-Nowhere.ensures)))

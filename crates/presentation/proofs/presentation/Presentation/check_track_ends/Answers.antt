use Rattle.presentation.proofs.presentation.Presentation.check_track_ends.Goals as goal
use Rattle.std.proofs.Common.{ap, sym, ◌∙◌, length, arith}
use Rattle.presentation.specs.{Counting.range_at, Presented.looked_at}
use Rattle.presentation.proofs.FirstFault.{first_here, none_at_all, none_here, none_yet}

pub loop-section-init : goal.loop-section-init
loop-section-init c = none_yet (range_at (looked_at c.args.now c.args.self.now) c.args.track) (length c.args.self.now.sections)

pub loop-section-preserved : goal.loop-section-preserved
loop-section-preserved c = let same = ap (λ q. length q.sections) c.self.view_is in
    none_here (range_at (looked_at c.args.now c.args.self.now) c.args.track)
    (length c.args.self.now.sections) c.loop-section.section c.in_default.field-0 (omega arith) c.loop-section.invariant
    (sym c.check_end.ensures ∙ c.in_default.is)

pub returns-in-Err : goal.returns-in-Err
returns-in-Err c = let same = ap (λ q. length q.sections) c.self.view_is in
    first_here (range_at (looked_at c.args.now c.args.self.now) c.args.track)
    (length c.args.self.now.sections) c.loop-section.section c.in-Err.fault (omega arith) c.loop-section.invariant
    (sym c.check_end.ensures ∙ c.in-Err.is)

pub returns : goal.returns
returns c = let same = ap (λ q. length q.sections) c.self.view_is in
    none_at_all (range_at (looked_at c.args.now c.args.self.now) c.args.track) (length c.args.self.now.sections) c.loop-section.section
    (omega arith) c.loop-section.invariant

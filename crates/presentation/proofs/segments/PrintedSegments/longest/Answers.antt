use Rattle.presentation.specs.Verifying as spec
use Rattle.presentation.proofs.segments.PrintedSegments.longest.Goals as goal
use Rattle.std.proofs.Common.{◌≡◌, sym, IfSome, subst, Err}
use Rattle.std.specs.Prelude.{slice_get}
use Rattle.timeline.specs.{Names.list_refusal, Listed.part_of_timing}
use Rattle.presentation.specs.Counting.{refusal, unless_any}
use Rattle.presentation.proofs.Verified.{fault_first}

pub returns-in-Err-clause-longest : goal.returns-in-Err-clause-longest
returns-in-Err-clause-longest g c = let old = c.args.self.now in let s = c.args.section in let t = c.args.track in let l = c.loop-segment in
    let held = c.in-Err.ensures in
    let refused = subst (λ timeline. IfSome (list_refusal c.in-Err.fault)
    (λ f. IfSome (slice_get l.self.left 0) (λ x. part_of_timing timeline x.times ≡ Err f))) l.invariant.timeline held.segment.refused in
    let first = fault_first old.timeline s t l.segment (spec.longest_left old.left) l.self.left c.in-Err.fault held.segment.some refused in
    let whole = subst (λ faults. IfSome (refusal (spec.fault_at s t l.segment c.in-Err.fault))
    (λ f. unless_any faults (spec.longest_left old.left) ≡ Err f)) (sym l.invariant.faults) first in
    subst (λ fault. IfSome (refusal fault) (λ f. spec.verified_rest old s t ≡ Err f)) (sym c.fault_at.ensures) whole

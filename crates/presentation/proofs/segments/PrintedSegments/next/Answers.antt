use Rattle.std.proofs.Common.{subst}
use Rattle.presentation.specs.Printing as spec
use Rattle.presentation.specs.Kept.{printed_rest}
use Rattle.presentation.proofs.Printing.{held}
use Rattle.presentation.proofs.segments.PrintedSegments.next.Goals as goal

pub returns-in-Err-clause-segment : goal.returns-in-Err-clause-segment
returns-in-Err-clause-segment g c = let r = c.self.inside.rounder in
    subst (λ old. spec.IsHeld old c.in-Err.fault (printed_rest c.next.new.self r)) c.self.view_is
    (held c.self.inside.listing c.next.new.self r c.in-Err.fault c.in-Err.ensures.segment)

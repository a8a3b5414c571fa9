use Rattle.std.proofs.Common.{◌≡◌, ◌==◌, Bool, true, false, not, ◌&&◌, ◌||◌, nat_lt, refl, ◌∙◌}
use Rattle.byte_scan.proofs.LaneLemmas.{both, flags-same}
use Rattle.byte_scan.proofs.class.low_controls.Goals as goal

none_of : (a b c d : Bool) → (a && not b && not c && not d) ≡ (a && not (b || c || d))
none_of false b c d = refl
none_of true true c d = refl
none_of true false true d = refl
none_of true false false d = refl

pub returns : goal.returns
returns c =
    let xs = c.args.lanes in
    both _ _ xs (both _ _ xs (both _ _ xs c.below.ensures c.differs_from.ensures) c.differs_from-2.ensures) c.differs_from-3.ensures
    ∙ flags-same _ _ xs (λ x. none_of (nat_lt x 32) (x == 9) (x == 10) (x == 13))

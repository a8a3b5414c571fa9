use Rattle.fragment_times.proofs.agreement.magnitude.Goals as goal
use Rattle.std.proofs.{Common.{◌≡◌, FitsSigned, unsigned_abs, ap, ◌∙◌, arith}, lemmas.Int.{fits_signed_from_abs, to_z-of_z}}
use Rattle.std.specs.Int.{w128}

is : (c : goal.After-unsigned_abs) → c.unsigned_abs.result ≡ unsigned_abs c.args.tick.n
is c =
    let fits : FitsSigned w128 c.args.tick.n = fits_signed_from_abs w128 c.args.tick.n (omega (arith, c.args.tick.bounded)) in
    c.unsigned_abs.ensures.value ∙ ap unsigned_abs (to_z-of_z w128 c.args.tick.n fits)

pub returns-clause-value : goal.returns-clause-value
returns-clause-value c = is c

pub returns-clause-bounded : goal.returns-clause-bounded
returns-clause-bounded c = omega (arith, is c, c.args.tick.bounded)

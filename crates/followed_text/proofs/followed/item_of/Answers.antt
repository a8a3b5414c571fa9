use Rattle.followed_text.proofs.followed.item_of.Goals as goal
use Rattle.std.proofs.{Common.{◌-◌, arith}, Math.Nat.one-le-pow}

pub nonzero_div-result : goal.nonzero_div-result
nonzero_div-result c = omega (arith, c.nanos_of_unit.ensures, one-le-pow (9 - c.args.digits) 10 (omega arith))

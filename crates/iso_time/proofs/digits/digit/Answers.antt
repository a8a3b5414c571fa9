use Rattle.std.proofs.Common.{arith}
use Rattle.exact_time.proofs.Decimals.{ten_pow-pos}
use Rattle.iso_time.proofs.digits.digit.Goals as goal

pub nonzero_div-result : goal.nonzero_div-result
nonzero_div-result c = omega (arith, ten_pow-pos c.args.place)

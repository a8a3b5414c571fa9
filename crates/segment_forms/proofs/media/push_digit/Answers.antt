use Rattle.segment_forms.proofs.media.push_digit.Goals as goal
use Rattle.std.proofs.{Common.{arith, refl}, lemmas.Fmt.decimal_digit}

pub returns : goal.returns
returns c = rw (c.in_ok-push.ensures.bytes, c.in_ok-push.ensures.ascii (omega arith), c.from.ensures, decimal_digit c.args.digit c.requires)
    refl

use Rattle.segment_forms.proofs.media.push_width.Goals as goal
use Rattle.segment_forms.proofs.MediaLemmas.{decimal_two}
use Rattle.std.proofs.Common.{arith, append_assoc}

pub returns : goal.returns
returns c = rw (c.in_ok-push_digit-2.ensures, c.in_ok-push_digit.ensures, decimal_two c.args.width (omega arith) (omega arith))
    (simp append_assoc)

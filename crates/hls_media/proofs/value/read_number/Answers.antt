use Rattle.std.proofs.Common.{sym}
use Rattle.hls_media.proofs.Digits.{no_number}
use Rattle.hls_media.proofs.value.read_number.Goals as goal

pub returns-in_err-number : goal.returns-in_err-number
returns-in_err-number c = rw c.from_residual.ensures (no_number c.args.text.now _ c.args.bound c.requires
    (sym c.if-not-is_number.ensures) c.parse.ensures.value.0 c.in_err-number.ensures.value)

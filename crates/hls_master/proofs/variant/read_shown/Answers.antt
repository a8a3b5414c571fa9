use Rattle.hls_master.proofs.variant.read_shown.Goals as goal
use Rattle.std.proofs.{Common.{sym, refl}, lemmas.Result.err_from_is_err_and}
use Rattle.hls_master.proofs.Answers.{no_fault, fault_is}

pub returns-in_err-frame_rate : goal.returns-in_err-frame_rate
returns-in_err-frame_rate c =
    let fault = err_from_is_err_and c.from_residual-in_err-frame_rate.result c.from_residual-in_err-frame_rate.ensures.1 in
    let one = no_fault _ _ _ (sym c.in_ok-codecs.ensures) in
    let two = no_fault _ _ _ (sym c.in_ok-size.ensures) in
    let three = fault_is _ _ _ (sym c.in_err-frame_rate.ensures) in
    rw (fault.1, fault.2, ← c.get.ensures, ← c.get-2.ensures, ← c.get-3.ensures, one, two, three) refl

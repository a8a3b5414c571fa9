use Rattle.std.proofs.{Common.{◌∙◌, Some, ap, arith}, lemmas.Result.err_from_is_err_and}
use Rattle.bridge_jobs.proofs.{Left.piece_left, Reading.{cut_piece, whole_piece}}
use Rattle.bridge_jobs.proofs.frame.read_piece.Goals as goal

pub returns-then-len-length-clause-piece : goal.returns-then-len-length-clause-piece
returns-then-len-length-clause-piece g c = λ bytes told.
    let taken = c.in_ok-body.ensures.bytes bytes told in
    let there = rw c.as_slice.ensures.value at c.behind-after.ensures.place in
    rw there (cut_piece c.args.place c.args.length bytes c.in_ok-body.body.items taken.0 (omega arith))

pub returns-clause-piece : goal.returns-clause-piece
returns-clause-piece g c = λ bytes told.
    let taken = c.in_ok-body.ensures.bytes bytes told in
    let there = rw c.as_slice.ensures.value at c.behind-after.ensures.place in (
      taken.1,
      taken.2,
      rw (there, c.from.ensures)
          (whole_piece c.args.place c.args.length bytes c.in_ok-body.body.items taken.1 taken.0 taken.3 (omega arith)),
    )

pub returns-clause-place : goal.returns-clause-place
returns-clause-place g c =
    let within = c.behind-after.ensures.within in
    record { at = omega (arith, within.at, c.as_slice.ensures.len, c.in_ok-body.ensures.room); line = within.line }

pub returns-in_err-body-clause-left : goal.returns-in_err-body-clause-left
returns-in_err-body-clause-left g c = λ bytes told.
    let fault = err_from_is_err_and c.from_residual.result c.from_residual.ensures.1 in
    rw (fault.1, fault.2) (c.in_err-body.ensures.fails bytes told)

pub returns-then-len-length-clause-left : goal.returns-then-len-length-clause-left
returns-then-len-length-clause-left g c = λ bytes told.
    let taken = c.in_ok-body.ensures.bytes bytes told in
    taken.2 ∙ ap Some (piece_left c.args.length bytes c.in_ok-body.body.items taken.1 taken.0 taken.3)

pub returns-clause-left : goal.returns-clause-left
returns-clause-left g c = λ bytes told.
    let taken = c.in_ok-body.ensures.bytes bytes told in
    taken.2 ∙ ap Some (piece_left c.args.length bytes c.in_ok-body.body.items taken.1 taken.0 taken.3)

use Rattle.bridge_jobs.proofs.frame.read_body.Goals as goal
use Rattle.std.proofs.{lemmas.Result.err_from_is_err_and, Common.Err}
use Rattle.bridge_jobs.specs.{Frames.{body_of, piece_of}, Headers.body_length}
use Rattle.bridge_jobs.proofs.Reading.{body_by, told_on}

pub returns-in_err-body-clause-frame : goal.returns-in_err-body-clause-frame
returns-in_err-body-clause-frame g c = λ bytes told.
    let place = c.args.place in
    let header = c.args.header.now in
    let fault = err_from_is_err_and c.from_residual.result c.from_residual.ensures.1 in
    rw (fault.1, fault.2) (told_on c.in_err-body.field-0.0 (piece_of place (body_length header) bytes) (body_of place header bytes)
    (λ f same. body_by place header bytes (Err f) same) (rw c.length.ensures at (c.in_err-body.ensures.piece bytes told)))

pub returns-clause-frame : goal.returns-clause-frame
returns-clause-frame g c = λ bytes told.
    let read = rw c.length.ensures at (c.in_ok-body.ensures.piece bytes told) in
    (read.0, read.1, rw c.framed.ensures.frame (body_by c.args.place c.args.header.now bytes _ read.2))

pub returns-in_err-body-clause-left : goal.returns-in_err-body-clause-left
returns-in_err-body-clause-left g c = λ bytes told.
    let fault = err_from_is_err_and c.from_residual.result c.from_residual.ensures.1 in
    rw (fault.1, fault.2) (rw c.length.ensures at (c.in_err-body.ensures.left bytes told))

pub returns-clause-left : goal.returns-clause-left
returns-clause-left g c = λ bytes told. rw c.length.ensures at (c.in_ok-body.ensures.left bytes told)

use Rattle.std.proofs.{Common.{Err, ap}, lemmas.Result.err_from_is_err_and}
use Rattle.bridge_jobs.proofs.{Left.{body_sized, no_body_left}, Reading.{no_body, no_header, whole_frame}}
use Rattle.bridge_jobs.proofs.frame.read_framed.Goals as goal

pub returns-in_err-header-clause-frame : goal.returns-in_err-header-clause-frame
returns-in_err-header-clause-frame g c = λ bytes told.
    let fault = err_from_is_err_and c.from_residual.result c.from_residual.ensures.1 in
    rw (fault.1, fault.2) (no_header c.args.at c.args.line.now bytes _ c.in_err-header.ensures.header)

pub returns-in_err-frame-clause-frame : goal.returns-in_err-frame-clause-frame
returns-in_err-frame-clause-frame g c = λ bytes told.
    let fault = err_from_is_err_and c.from_residual-in_err-frame.result c.from_residual-in_err-frame.ensures.1 in
    rw (fault.1, fault.2) (no_body c.args.at c.args.line.now bytes c.in_ok-header.header c.behind-body_at.result _
    c.in_ok-header.ensures.header c.behind-body_at.ensures.place (c.in_err-frame.ensures.frame bytes told))

pub returns-clause-frame : goal.returns-clause-frame
returns-clause-frame g c = λ bytes told.
    let read = c.in_ok-frame.ensures.frame bytes told in (
      read.0,
      read.1,
      whole_frame c.args.at c.args.line.now bytes c.in_ok-header.header c.behind-body_at.result _ _ read.0
          c.in_ok-header.ensures.header c.behind-body_at.ensures.place read.2,
    )

pub returns-in_err-header-clause-left : goal.returns-in_err-header-clause-left
returns-in_err-header-clause-left g c = λ bytes told.
    let fault = err_from_is_err_and c.from_residual.result c.from_residual.ensures.1 in
    rw (fault.1, fault.2) (no_body_left c.args.at c.args.line.now bytes _ _ c.in_err-header.ensures.header
    (λ is. c.in_err-header.ensures.told (ap Err is)) told)

pub returns-in_err-frame-clause-left : goal.returns-in_err-frame-clause-left
returns-in_err-frame-clause-left g c = λ bytes told.
    let fault = err_from_is_err_and c.from_residual-in_err-frame.result c.from_residual-in_err-frame.ensures.1 in
    let size = body_sized c.args.at c.args.line.now c.in_ok-header.header c.in_ok-header.ensures.header in
    rw (fault.1, fault.2, size) (c.in_err-frame.ensures.left bytes told)

pub returns-clause-left : goal.returns-clause-left
returns-clause-left g c = λ bytes told.
    let size = body_sized c.args.at c.args.line.now c.in_ok-header.header c.in_ok-header.ensures.header in
    rw size (c.in_ok-frame.ensures.left bytes told)

use Rattle.bridge_jobs.proofs.frame.read_frame.Goals as goal
use Rattle.std.proofs.{Common.{◌∙◌, Err, Some, ap, arith, drop, refl}, lemmas.Result.err_from_is_err_and}
use Rattle.bridge_jobs.specs.Frames.{body_size, frame_by_line, line_size, most_header, next_frame, next_line, of_next, some_of}
use Rattle.bridge_jobs.proofs.Left.{frame_sized, left_first, left_then, none_next, read_then, same_rest}
use Rattle.bridge_jobs.proofs.Reading.{next_frame_by, told_on}

pub returns-in_err-next-clause-frame : goal.returns-in_err-next-clause-frame
returns-in_err-next-clause-frame g c = λ bytes told.
    let at = c.args.at.now in
    let fault = err_from_is_err_and c.from_residual.result c.from_residual.ensures.1 in
    rw (fault.1, fault.2) (told_on c.in_err-next.field-0.0 (next_line most_header at bytes) (next_frame at bytes)
    (λ f same. next_frame_by at bytes (Err f) same) (c.in_err-next.ensures.line bytes told))

pub returns-in-None-clause-frame : goal.returns-in-None-clause-frame
returns-in-None-clause-frame g c = λ bytes told.
    let read = rw c.in-None.is at (c.in_ok-next.ensures.line bytes told) in (read.0, read.1, next_frame_by c.args.at.now bytes _ read.2)

pub returns-in_err-frame-in-Some-clause-frame : goal.returns-in_err-frame-in-Some-clause-frame
returns-in_err-frame-in-Some-clause-frame g c = λ bytes told.
    let at = c.args.at.now in
    let taken = rw c.in-Some.is at (c.in_ok-next.ensures.line bytes told) in
    let fault = err_from_is_err_and c.from_residual-in_err-frame-in-Some.result c.from_residual-in_err-frame-in-Some.ensures.1 in
    let refused = rw c.as_slice.ensures at (c.in_err-frame-in-Some.ensures.frame taken.0 taken.1) in
    rw (fault.1, fault.2) (told_on c.in_err-frame-in-Some.field-0.0 (frame_by_line at c.in-Some.line taken.0) (next_frame at bytes)
    (λ f same. next_frame_by at bytes _ taken.2 ∙ ap some_of same) refused)

pub returns-in_ok-frame-in-Some-clause-frame : goal.returns-in_ok-frame-in-Some-clause-frame
returns-in_ok-frame-in-Some-clause-frame g c = λ bytes told.
    let at = c.args.at.now in
    let taken = rw c.in-Some.is at (c.in_ok-next.ensures.line bytes told) in
    let read = rw c.as_slice.ensures at (c.in_ok-frame-in-Some.ensures.frame taken.0 taken.1) in
    (read.0, read.1, next_frame_by at bytes _ taken.2 ∙ ap some_of read.2)

pub returns-in_err-next-clause-left : goal.returns-in_err-next-clause-left
returns-in_err-next-clause-left g c = λ bytes told.
    let at = c.args.at.now in
    let fault = err_from_is_err_and c.from_residual.result c.from_residual.ensures.1 in
    rw (fault.1, fault.2, frame_sized at bytes _ refl) (left_first c.in_err-next.field-0.0 (line_size most_header bytes)
    (of_next (body_size at) (next_line most_header at bytes)) bytes _ (c.in_err-next.ensures.left bytes told)
    (none_next (body_size at) (next_line most_header at bytes) c.in_err-next.field-0.0 (c.in_err-next.ensures.line bytes told)))

pub returns-in-None-clause-left : goal.returns-in-None-clause-left
returns-in-None-clause-left g c = λ bytes told.
    let read = rw c.in-None.is at (c.in_ok-next.ensures.line bytes told) in
    let all = frame_sized c.args.at.now bytes _ read.2 in
    c.in_ok-next.ensures.left bytes told ∙ ap (λ n. Some (drop n bytes)) (omega (arith, all))

pub returns-in_err-frame-in-Some-clause-left : goal.returns-in_err-frame-in-Some-clause-left
returns-in_err-frame-in-Some-clause-left g c = λ bytes told.
    let at = c.args.at.now in
    let taken = rw c.in-Some.is at (c.in_ok-next.ensures.line bytes told) in
    let behind = same_rest _ taken.0 (drop (line_size most_header bytes) bytes) taken.1 (c.in_ok-next.ensures.left bytes told) in
    let fault = err_from_is_err_and c.from_residual-in_err-frame-in-Some.result c.from_residual-in_err-frame-in-Some.ensures.1 in
    let left = rw c.as_slice.ensures at (c.in_err-frame-in-Some.ensures.left taken.0 taken.1) in
    rw (fault.1, fault.2, frame_sized at bytes _ taken.2) (left_then c.in_err-frame-in-Some.field-0.0 (line_size most_header bytes)
    (body_size at c.in-Some.line) bytes taken.0 _ behind left)

pub returns-in_ok-frame-in-Some-clause-left : goal.returns-in_ok-frame-in-Some-clause-left
returns-in_ok-frame-in-Some-clause-left g c = λ bytes told.
    let at = c.args.at.now in
    let taken = rw c.in-Some.is at (c.in_ok-next.ensures.line bytes told) in
    let behind = same_rest _ taken.0 (drop (line_size most_header bytes) bytes) taken.1 (c.in_ok-next.ensures.left bytes told) in
    let left = rw c.as_slice.ensures at (c.in_ok-frame-in-Some.ensures.left taken.0 taken.1) in
    rw (frame_sized at bytes _ taken.2) (read_then (line_size most_header bytes) (body_size at c.in-Some.line) bytes taken.0 _ behind left)

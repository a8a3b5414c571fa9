use Rattle.bridge_jobs.proofs.round.read_rounded.Goals as goal
use Rattle.std.proofs.{Common.{◌∙◌, Ok, Err, ap}, lemmas.Result.err_from_is_err_and}
use Rattle.bridge_jobs.specs.{Frames.{behind, header_at}, Rounds.{bodies_of, counted, header_of, most_header, round_by_line}}
use Rattle.bridge_jobs.proofs.{Left.{bodies_sized, no_bodies_left}, Reading.told_on, RoundsRead.round_by}

pub returns-in_err-header-clause-round : goal.returns-in_err-header-clause-round
returns-in_err-header-clause-round g c = λ bytes told.
    let at = c.args.at in
    let line = c.args.line.now in
    let fault = err_from_is_err_and c.from_residual.result c.from_residual.ensures.1 in
    rw (fault.1, fault.2) (told_on c.in_err-header.field-0.0 (header_at most_header (header_of c.args.tracks) at.place line)
    (round_by_line c.args.tracks at line bytes)
    (λ f same. round_by c.args.tracks at line bytes (Err f) same) c.in_err-header.ensures.header)

pub returns-in_err-bodies-clause-round : goal.returns-in_err-bodies-clause-round
returns-in_err-bodies-clause-round g c = λ bytes told.
    let at = c.args.at in
    let line = c.args.line.now in
    let header = c.in_ok-header.header in
    let fault = err_from_is_err_and c.from_residual-in_err-bodies.result c.from_residual-in_err-bodies.ensures.1 in
    let refused = rw (c.behind-bodies_at.ensures.place, c.as_slice.ensures) at (c.in_err-bodies.ensures.bodies bytes told) in
    rw (fault.1, fault.2) (told_on c.in_err-bodies.field-0.0 (bodies_of (behind at.place line) header.lengths bytes)
    (round_by_line c.args.tracks at line bytes)
    (λ f same. round_by c.args.tracks at line bytes (Ok header) c.in_ok-header.ensures.header
    ∙ ap (counted at.frames header.now) same) refused)

pub returns-clause-round : goal.returns-clause-round
returns-clause-round g c = λ bytes told.
    let at = c.args.at in
    let header = c.in_ok-header.header in
    let read = rw (c.behind-bodies_at.ensures.place, c.as_slice.ensures) at (c.in_ok-bodies.ensures.bodies bytes told) in (
      read.0,
      read.1,
      round_by c.args.tracks at c.args.line.now bytes (Ok header) c.in_ok-header.ensures.header
          ∙ ap (counted at.frames header.now) read.2,
    )

pub returns-in_err-header-clause-left : goal.returns-in_err-header-clause-left
returns-in_err-header-clause-left g c = λ bytes told.
    let fault = err_from_is_err_and c.from_residual.result c.from_residual.ensures.1 in
    rw (fault.1, fault.2) (no_bodies_left c.args.tracks c.args.at c.args.line.now bytes c.in_err-header.field-0.0 _
    c.in_err-header.ensures.header (λ is. c.in_err-header.ensures.told (ap Err is)) told)

pub returns-in_err-bodies-clause-left : goal.returns-in_err-bodies-clause-left
returns-in_err-bodies-clause-left g c = λ bytes told.
    let fault = err_from_is_err_and c.from_residual-in_err-bodies.result c.from_residual-in_err-bodies.ensures.1 in
    let size = bodies_sized c.args.tracks c.args.at c.args.line.now c.in_ok-header.header c.in_ok-header.ensures.header in
    rw (fault.1, fault.2, size) (rw c.as_slice.ensures at (c.in_err-bodies.ensures.left bytes told))

pub returns-clause-left : goal.returns-clause-left
returns-clause-left g c = λ bytes told.
    let size = bodies_sized c.args.tracks c.args.at c.args.line.now c.in_ok-header.header c.in_ok-header.ensures.header in
    rw size (rw c.as_slice.ensures at (c.in_ok-bodies.ensures.left bytes told))

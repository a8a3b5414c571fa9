use Rattle.bridge_jobs.proofs.round.read_bodies.Goals as goal
use Rattle.std.proofs.{Common.{[], ◌∷◌, get_or, arith, length-append}, lemmas.Result.err_from_is_err_and}
use Rattle.bridge_jobs.proofs.RoundsRead.{all_bodies, all_left, behind_next, body_dropped, body_fails, body_left, body_more, next_size}

pub returns-in_err-body-clause-bodies : goal.returns-in_err-body-clause-bodies
returns-in_err-body-clause-bodies g c = λ bytes told.
    let lengths = c.args.lengths.now in
    let i = c.loop-length.length-index in
    let fault = err_from_is_err_and c.from_residual.result c.from_residual.ensures.1 in
    rw (fault.1, fault.2) (body_fails c.args.place c.loop-length.at lengths i c.loop-length.bodies _ _ c.loop-length.invariant.so_far
    (get_or lengths i 0) c.in_err-body.field-0.0
    (next_size lengths i c.loop-length-test.true) c.in_err-body.ensures.piece bytes told)

pub loop-length-preserved : goal.loop-length-preserved
loop-length-preserved g c =
    let lengths = c.args.lengths.now in
    let i = c.loop-length.length-index in
    let so_far = c.loop-length.invariant in
    record {
      so_far = rw c.in_ok-push.ensures.ok (body_more c.args.place c.loop-length.at lengths i c.loop-length.bodies _ _ so_far.so_far
          (get_or lengths i 0) c.in_ok-body.body c.in_ok-body.after _
          (next_size lengths i c.loop-length-test.true) c.in_ok-body.ensures.piece c.in_ok-body.ensures.left);
      place = behind_next lengths i c.args.place c.loop-length.at c.in_ok-body.after c.loop-length-test.true so_far.place
          c.in_ok-body.ensures.place;
      count = rw c.in_ok-push.ensures.ok (omega (arith, so_far.count, length-append c.loop-length.bodies (c.in_ok-body.body ∷ [])));
      never_falls = omega (arith, so_far.never_falls, c.in_ok-body.ensures.cause.never_falls);
    }

pub returns-clause-bodies : goal.returns-clause-bodies
returns-clause-bodies g c =
    all_bodies c.args.place c.loop-length.at c.args.lengths.now c.loop-length.length-index c.loop-length.bodies _ _
    c.loop-length.invariant.so_far c.loop-length-test.false

pub returns-in_err-body-clause-left : goal.returns-in_err-body-clause-left
returns-in_err-body-clause-left g c = λ bytes told.
    let lengths = c.args.lengths.now in
    let i = c.loop-length.length-index in
    let fault = err_from_is_err_and c.from_residual.result c.from_residual.ensures.1 in
    rw (fault.1, fault.2) (body_left c.args.place c.loop-length.at lengths i c.loop-length.bodies _ _ c.loop-length.invariant.so_far
    (get_or lengths i 0) c.in_err-body.field-0.0 _
    (next_size lengths i c.loop-length-test.true) c.in_err-body.ensures.piece c.in_err-body.ensures.left bytes told)

pub returns-clause-left : goal.returns-clause-left
returns-clause-left g c =
    all_left c.args.place c.loop-length.at c.args.lengths.now c.loop-length.length-index c.loop-length.bodies _ _
    c.loop-length.invariant.so_far c.loop-length-test.false

pub returns-in_err-push-clause-left : goal.returns-in_err-push-clause-left
returns-in_err-push-clause-left g c = λ bytes told.
    let lengths = c.args.lengths.now in
    let i = c.loop-length.length-index in
    let fault = err_from_is_err_and c.from_residual-in_err-push.result c.from_residual-in_err-push.ensures.1 in
    rw (fault.1, fault.2) (body_dropped c.args.place c.loop-length.at lengths i c.loop-length.bodies _ _ c.loop-length.invariant.so_far
    (get_or lengths i 0) _ (next_size lengths i c.loop-length-test.true) c.in_ok-body.ensures.left bytes told)

use Rattle.fragment_times.proofs.part.read_to_box.Goals as goal
use Rattle.std.proofs.{Common.{◌≡◌, ◌∙◌, length-append, arith}, lemmas.Result.err_from_is_err_and}
use Rattle.fragment_times.proofs.{Passed.{longer}, Reached.{all_tell, front_tells, joined, no_box, short_tells}}

pub returns-in_err-bytes-clause-found : goal.returns-in_err-bytes-clause-found
returns-in_err-bytes-clause-found g c = λ files told.
    let fault = err_from_is_err_and c.from_residual.result c.from_residual.ensures.1 in
    rw (fault.1, fault.2) (no_box c.args.kind c.args.reach _ _ (files c.args.file.now) c.in_err-bytes.field-0.0
    (c.in_err-bytes.ensures.part files told))

pub returns-then-len-most-clause-found : goal.returns-then-len-most-clause-found
returns-then-len-most-clause-found g c = λ files told.
    let l = c.loop-most in
    short_tells c.args.kind c.args.reach l.from l.most (files c.args.file.now) l.bytes l.invariant.passed l.invariant.within
    (l.invariant.told files told) (omega arith)

pub returns-then-passed-clause-found : goal.returns-then-passed-clause-found
returns-then-passed-clause-found g c = λ files told.
    let l = c.loop-most in
    front_tells c.args.kind c.args.reach c.pass-passed.result.from l.most (files c.args.file.now) l.bytes
    (rw c.as_slice.ensures at c.pass-passed.ensures.passed) (rw c.as_slice.ensures at (c.pass-passed.ensures.found (cc)))
    l.invariant.within (l.invariant.told files told)

pub returns-in_err-rest-clause-found : goal.returns-in_err-rest-clause-found
returns-in_err-rest-clause-found g c = λ files told.
    let fault = err_from_is_err_and c.from_residual-in_err-rest.result c.from_residual-in_err-rest.ensures.1 in
    rw (fault.1, fault.2) (no_box c.args.kind c.args.reach _ _ (files c.args.file.now) c.in_err-rest.field-0.0
    (c.in_err-rest.ensures.part files (c.loop-most.invariant.files ∙ told)))

pub returns-clause-found : goal.returns-clause-found
returns-clause-found g c = λ files told.
    let l = c.loop-most in
    let all : l.most ≡ c.args.reach.limit = omega (arith, l.invariant.within) in
    all_tell c.args.kind c.args.reach l.from (files c.args.file.now) l.bytes l.invariant.passed (rw all at (l.invariant.told files told))

pub loop-most-preserved : goal.loop-most-preserved
loop-most-preserved g c =
    let l = c.loop-most in let rest = c.in_ok-rest.rest in
    let before = rw c.as_slice.ensures at c.pass-passed.ensures.within in
    let passed = rw c.as_slice.ensures at c.pass-passed.ensures.passed in
    rw (c.in_ok-extend.ensures.ok, c.as_slice-in-loop-most.ensures) (record {
      files = c.in_ok-rest.ensures.files ∙ l.invariant.files;
      writes = c.in_ok-rest.ensures.writes ∙ l.invariant.writes;
      never_falls = omega (arith, c.in_ok-rest.ensures.cause.never_falls, l.invariant.never_falls);
      some = λ less. omega arith;
      within = omega arith;
      few = omega (arith, length-append l.bytes rest, l.invariant.few, c.in_ok-rest.ensures.most);
      before = omega (arith, length-append l.bytes rest, before);
      passed = longer c.args.kind c.args.reach.first c.pass-passed.result.from l.bytes rest passed;
      told = λ files told.
          joined c.args.reach.first l.most c.min-more.result (files c.args.file.now) l.bytes rest (l.invariant.told files told)
          (c.in_ok-rest.ensures.part files (l.invariant.files ∙ told));
    })

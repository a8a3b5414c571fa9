use Rattle.std.proofs.{Common.{◌∙◌, [], ◌∷◌, arith, length-append}, lemmas.Result.err_from_is_err_and}
use Rattle.bridge_jobs.proofs.Lines.{byte_fails, line_byte, line_cut, line_fails, line_full, line_last}
use Rattle.bridge_jobs.proofs.input.read_line.Goals as goal

pub returns-in_default-clause-bytes : goal.returns-in_default-clause-bytes
returns-in_default-clause-bytes g c = λ bytes told.
    let none = rw c.in_default.is at c.in_ok-byte.ensures.byte in
    let taken = line_cut _ _ _ _ c.loop-input.invariant.so_far none.0 bytes told in
    (taken.0, taken.1, none.1 ∙ taken.2, taken.3)

pub returns-then-byte-eq10-clause-bytes : goal.returns-then-byte-eq10-clause-bytes
returns-then-byte-eq10-clause-bytes g c = λ bytes told.
    let byte = rw c.in-Some.is at c.in_ok-byte.ensures.byte in
    rw c.in_ok-push.ensures.ok (line_last _ c.in-Some.byte _ _ _ _ c.loop-input.invariant.so_far
    (omega arith) byte c.if-byte-eq10.true bytes told)

pub loop-input-preserved : goal.loop-input-preserved
loop-input-preserved g c =
    let byte = rw c.in-Some.is at c.in_ok-byte.ensures.byte in
    record {
      room = rw c.in_ok-push.ensures.ok (omega (arith, length-append c.loop-input.line (c.in-Some.byte ∷ [])));
      so_far = rw c.in_ok-push.ensures.ok (line_byte _ c.in-Some.byte _ _ _ _ c.loop-input.invariant.so_far
          (omega arith) byte c.if-byte-eq10.false);
      never_falls = omega (arith, c.loop-input.invariant.never_falls, c.in_ok-byte.ensures.cause.never_falls);
    }

pub returns-clause-bytes : goal.returns-clause-bytes
returns-clause-bytes g c = line_full _ _ _ _ c.loop-input.invariant.so_far (omega arith)

pub returns-in_err-byte-clause-fails : goal.returns-in_err-byte-clause-fails
returns-in_err-byte-clause-fails g c =
    let fault = err_from_is_err_and c.from_residual-in_err-byte.result c.from_residual-in_err-byte.ensures.1 in
    rw (fault.1, fault.2) (line_fails c.args.most c.loop-input.line _ _ _ c.in_err-byte.field-0.0 c.loop-input.invariant.so_far
    (omega arith) c.in_err-byte.ensures.fails)

pub returns-in_err-push-clause-fails : goal.returns-in_err-push-clause-fails
returns-in_err-push-clause-fails g c =
    let byte = rw c.in-Some.is at c.in_ok-byte.ensures.byte in
    let fault = err_from_is_err_and c.from_residual-in_err-push.result c.from_residual-in_err-push.ensures.1 in
    rw (fault.1, fault.2) (byte_fails c.args.most c.in-Some.byte c.loop-input.line _ _ _ c.loop-input.invariant.so_far
    (omega arith) byte)

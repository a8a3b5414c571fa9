use Rattle.bridge_io.proofs.file_writer.FileWriter.push_parts.Goals as goal
use Rattle.std.proofs.{Common.{◌≡◌, ℕ, List, ◌++◌, take, drop, append_assoc, ◌∙◌, arith}, lemmas.List.take-append-drop}
use Rattle.bridge_io.specs.Written.{target, front_of_whole}
use Rattle.bridge_io.proofs.Files.{on_err}

-- what was taken, with the next part, goes on with what is left behind that
goes_on : (front rest piece part back : List ℕ) (n : ℕ) → front ++ rest ≡ piece → part ≡ take n rest → back ≡ drop n rest
    → (front ++ part) ++ back ≡ piece
goes_on front rest piece part back n goes cut left = rw (cut, left, append_assoc, take-append-drop) goes

pub returns-in_err-hold-clause-err : goal.returns-in_err-hold-clause-err
returns-in_err-hold-clause-err g c = on_err c.from_residual.result (λ text first behind.
    let kept = c.loop-rest.invariant.taken in
    let part = c.split_at.result.0.now in
    let whole = goes_on kept.0 c.loop-rest.rest.now c.args.piece.now part c.split_at.result.1.now _ kept.1 c.split_at.ensures.front
    c.split_at.ensures.back in
    let front = rw (append_assoc, c.loop-rest.invariant.target) at
    (c.in_err-hold.ensures.err (text ++ kept.0) first (kept.2 text first behind)) in
    front_of_whole (target c.args.self.now) text (kept.0 ++ part) c.split_at.result.1.now c.args.piece.now first _ whole front)

pub loop-rest-preserved : goal.loop-rest-preserved
loop-rest-preserved g c =
    let kept = c.loop-rest.invariant.taken in
    let part = c.split_at.result.0.now in
    record {
      target = c.hold.ensures.target ∙ c.loop-rest.invariant.target;
      taken = (
        kept.0 ++ part,
        goes_on kept.0 c.loop-rest.rest.now c.args.piece.now part c.split_at.result.1.now _ kept.1 c.split_at.ensures.front
            c.split_at.ensures.back,
        λ text first behind. rw append_assoc at (c.in_ok-hold.ensures.ok (text ++ kept.0) first (kept.2 text first behind)),
      );
      never_falls = omega (arith, c.loop-rest.invariant.never_falls, c.hold.ensures.cause.never_falls);
      reads = c.hold.ensures.reads ∙ c.loop-rest.invariant.reads;
    }

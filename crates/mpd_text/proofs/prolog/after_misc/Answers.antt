use Rattle.mpd_text.proofs.prolog.after_misc.Goals as goal
use Rattle.std.proofs.{Common.{Ok, refl, sym, ap}, lemmas.Result.err_from_is_err_and}
use Rattle.mpd_tree.specs.{Grammar.{misc, next_comment}, Productions.{◌>>=◌, many}, Runs.after_white}
use Rattle.mpd_text.proofs.Loop.{failed, loop_cut, loop_failed, loop_stepped}

pub returns-in_err-is_ended : goal.returns-in_err-is_ended
unfolding misc
returns-in_err-is_ended c =
    let p = err_from_is_err_and c.from_residual.result c.from_residual.ensures.1 in
    let e = c.in_err-is_ended.field-0.0 in
    rw (p.1, p.2) (failed e (many next_comment tt (after_white c.args.bytes.now)).read (λ x. Ok x.1) (misc c.args.bytes.now).read
    (loop_failed _ _ _ c.loop.invariant c.loop-test.true e c.in_err-is_ended.ensures) refl)

pub returns-then-is_ended : goal.returns-then-is_ended
unfolding misc
returns-then-is_ended c =
    let step = rw c.if-is_ended.true at c.in_ok-is_ended.ensures in
    ap (λ r. r >>= λ x. Ok x.1) (sym (loop_stepped _ _ _ c.loop.invariant c.loop-test.true step))

pub loop-preserved : goal.loop-preserved
loop-preserved c =
    let step = rw c.if-is_ended.false at c.in_ok-is_ended.ensures in
    loop_stepped _ _ _ c.loop.invariant c.loop-test.true step

pub returns : goal.returns
unfolding misc
returns c = rw c.syntax.ensures (ap (λ r. r >>= λ x. Ok x.1) (loop_cut _ _ _ c.loop.invariant c.loop-test.false))

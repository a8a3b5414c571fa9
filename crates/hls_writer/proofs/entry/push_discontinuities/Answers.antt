use Rattle.hls_writer.proofs.entry.push_discontinuities.Goals as goal
use Rattle.std.proofs.{Common.{◌<◌, replicate, length, sym, ap, arith}, lemmas.List.{take_all, get_or-replicate, length-replicate}}
use Rattle.hls_writer.specs.Lines.{line_text, discontinuity}
use Rattle.bridge_io.proofs.Adding.{adds_none, adds_same, adds_more, adds_until}

pub loop-step-init : goal.loop-step-init
loop-step-init g c = adds_none _

pub loop-step-preserved : goal.loop-step-preserved
loop-step-preserved g c =
    let lines = replicate c.args.count discontinuity in
    let at = c.loop-step._step in
    let below : at < length lines = omega (arith, length-replicate c.args.count discontinuity) in
    let here = sym (ap line_text (get_or-replicate c.args.count at discontinuity discontinuity (omega arith))) in
    adds_more line_text lines at discontinuity below c.loop-step.invariant (adds_same here c.in_ok-push_to.ensures)

pub returns-in_err-push_to : goal.returns-in_err-push_to
returns-in_err-push_to g c =
    let lines = replicate c.args.count discontinuity in
    let at = c.loop-step._step in
    let below : at < length lines = omega (arith, length-replicate c.args.count discontinuity) in
    let here = sym (ap line_text (get_or-replicate c.args.count at discontinuity discontinuity (omega arith))) in
    adds_until line_text lines at discontinuity below c.loop-step.invariant c.from_residual.result c.from_residual.ensures.1
    (adds_same here c.in_err-push_to.ensures)

pub returns : goal.returns
returns g c =
    let lines = replicate c.args.count discontinuity in
    rw (← take_all c.loop-step._step lines (omega (arith, length-replicate c.args.count discontinuity))) c.loop-step.invariant

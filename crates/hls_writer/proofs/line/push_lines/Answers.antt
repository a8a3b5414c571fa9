use Rattle.std.proofs.lemmas.List.{take_all}
use Rattle.bridge_io.proofs.Adding.{adds_none, adds_same, adds_more, adds_until}
use Rattle.hls_writer.proofs.Present.{there_text, lines_text-all_written, there_text-some, there_text-none}
use Rattle.hls_writer.proofs.line.push_lines.Goals as goal
use Rattle.hls_writer.proofs.line.push_lines.Goals.{in-Some+in_ok-push_to, in_default}

pub loop-line-init : goal.loop-line-init
loop-line-init g c = adds_none _

pub loop-line-preserved : goal.loop-line-preserved
loop-line-preserved g c =
    let lines = c.args.lines.now in
    let i = c.loop-line.line-index in
    let item = c.line-item in
    elim c.match-line.branch [
      | in-Some+in_ok-push_to w ↦ rw w.sheet-is
          (adds_more there_text lines i item.result c.loop-line-test.true c.loop-line.invariant
          (adds_same (there_text-some lines i item.result w.in-Some.line item.is w.in-Some.is) w.in_ok-push_to.ensures))
      | in_default w ↦ rw w.sheet-is (adds_more there_text lines i item.result c.loop-line-test.true c.loop-line.invariant
          (adds_same (there_text-none lines i item.result item.is w.in_default.is) (adds_none _)))
    ]

pub returns-in_err-push_to : goal.returns-in_err-push_to
returns-in_err-push_to g c =
    let lines = c.args.lines.now in
    let i = c.loop-line.line-index in
    let item = c.line-item in
    rw lines_text-all_written (adds_until there_text lines i item.result c.loop-line-test.true c.loop-line.invariant c.from_residual.result
    c.from_residual.ensures.1
    (adds_same (there_text-some lines i item.result c.in-Some.line item.is c.in-Some.is) c.in_err-push_to.ensures))

pub returns : goal.returns
returns g c = rw (lines_text-all_written, ← take_all c.loop-line.line-index c.args.lines.now c.loop-line-test.false) c.loop-line.invariant

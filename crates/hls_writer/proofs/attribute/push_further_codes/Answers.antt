use Rattle.std.proofs.lemmas.List.{take_all}
use Rattle.bridge_io.proofs.Adding.{adds_none, adds_more, adds_until, adds_same}
use Rattle.hls_writer.proofs.Listing.{code_after, code_at, further_codes}
use Rattle.hls_writer.proofs.attribute.push_further_codes.Goals as goal

pub loop-code-init : goal.loop-code-init
loop-code-init g c = adds_none _

pub loop-code-preserved : goal.loop-code-preserved
loop-code-preserved g c = adds_more code_after c.args.codes.now c.loop-code.code-index _ c.loop-code-test.true c.loop-code.invariant
    (adds_same (code_at c.args.codes.now c.loop-code.code-index _ c.as_bytes.result.now c.as_bytes.ensures.value)
    c.in_ok-push_pieces.ensures)

pub returns-in_err-push_pieces : goal.returns-in_err-push_pieces
returns-in_err-push_pieces g c = adds_same (further_codes c.args.codes.now)
    (adds_until code_after c.args.codes.now c.loop-code.code-index _ c.loop-code-test.true c.loop-code.invariant c.from_residual.result
    c.from_residual.ensures.1 (adds_same (code_at c.args.codes.now c.loop-code.code-index _ c.as_bytes.result.now
    c.as_bytes.ensures.value) c.in_err-push_pieces.ensures))

pub returns : goal.returns
returns g c = adds_same (further_codes c.args.codes.now)
    (rw (take_all c.loop-code.code-index c.args.codes.now c.loop-code-test.false) at c.loop-code.invariant)

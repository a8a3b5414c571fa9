use Rattle.std.proofs.Common.{Some, None, sym, ◌∙◌, arith}
use Rattle.byte_scan.proofs.PlaceLemmas.{NoneBelow_more, position_in_block, position_in_rest}
use Rattle.byte_scan.proofs.scan.first.Goals as goal

pub returns-then-found-ne0 : goal.returns-then-found-ne0
returns-then-found-ne0 g c =
    sym (position_in_block c.cut.ensures c.loop-index.index c.loop-index-test.true
    (omega arith) c.loop-index.invariant c.hits-found.result c.hits-found.ensures c.if-found-ne0.true)

pub loop-index-preserved : goal.loop-index-preserved
loop-index-preserved g c =
    NoneBelow_more c.cut.ensures c.loop-index.index c.loop-index-test.true c.loop-index.invariant (sym c.hits-found.ensures
    ∙ c.if-found-ne0.false)

pub returns-in_err-place : goal.returns-in_err-place
returns-in_err-place g c =
    c.from_residual.ensures ∙ position_in_rest c.cut.ensures c.loop-index.index
    (omega arith) c.loop-index.invariant None c.in_err-place.ensures

pub returns : goal.returns
returns g c = position_in_rest c.cut.ensures c.loop-index.index (omega arith) c.loop-index.invariant
    (Some c.in_ok-place.place) c.in_ok-place.ensures

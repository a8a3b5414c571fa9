use Rattle.byte_scan.proofs.scan.count.Goals as goal
use Rattle.std.proofs.{Common.{◌≡◌, ◌*◌, sym, ap, ◌∙◌, count_by, length, drop, arith}, lemmas.List.Sums.count_by-le-length}
use Rattle.byte_scan.proofs.CountLemmas.{count_by_block}

pub overflow_add-count : goal.overflow_add-count
overflow_add-count g c =
    let passes = g.T.ByteTest.passes c.args.test.now in
    omega (
      arith,
      count_by_block passes 32 c.cut.ensures c.loop-block.block-index c.loop-block-test.true c.hits.result c.hits.ensures,
      count_by-le-length passes c.args.bytes.now,
    )

pub loop-block-preserved : goal.loop-block-preserved
loop-block-preserved g c =
    let passes = g.T.ByteTest.passes c.args.test.now in
    omega (arith, count_by_block passes 32 c.cut.ensures c.loop-block.block-index c.loop-block-test.true c.hits.result c.hits.ensures)

pub returns : goal.returns
returns g c =
    let passes = g.T.ByteTest.passes c.args.test.now in
    let all : c.loop-block.block-index ≡ length c.cut.result.0.now = omega arith in
    let rest = ap (λ k. count_by passes (drop (32 * k) c.args.bytes.now)) all ∙ ap (count_by passes) (sym c.cut.ensures.rest_is) in
    omega (arith, rest)

use Rattle.std.proofs.{Common.{◌≡◌, take, subst, arith}, lemmas.Grind.common_steps}
use Rattle.template_ids.specs.Long.{ForEach, IsAtLeast}
use Rattle.template_ids.proofs.LongNames.{all_named, longer_next, so_far}
use Rattle.template_ids.proofs.template.Template.least_len.Goals as goal

pub loop-piece-preserved : goal.loop-piece-preserved
loop-piece-preserved c =
    let cut = c.pieces-piece-items.ensures.cut c.loop-piece.piece-index _ c.loop-piece-test.true in
    longer_next c.args.self.now c.args.id.now c.args.bandwidth c.pieces-piece-items.result.now c.loop-piece.piece-index _ c.loop-piece.len
    _ _
    c.loop-piece-test.true c.loop-piece.invariant (c.least_len.ensures c.args.self.now c.args.bandwidth cut)
    (omega (arith, c.saturating_add-len.ensures))

pub returns : goal.returns
returns c =
    let all : take c.loop-piece.piece-index c.pieces-piece-items.result.now ≡ c.pieces-piece-items.result.now =
    grind (arith, common_steps) in
    all_named c.args.self.now c.args.id.now c.args.bandwidth c.pieces-piece-items.result.now (IsAtLeast c.loop-piece.len)
    c.pieces-piece-items.ensures (subst (λ ps. ForEach (so_far c.args.self.now c.args.id.now c.args.bandwidth ps)
    (IsAtLeast c.loop-piece.len)) all
    c.loop-piece.invariant)

use Rattle.std.proofs.{Common.{◌≡◌, ◌∙◌, ap, take, subst, arith}, lemmas.Grind.common_steps}
use Rattle.std.specs.List.{list_all}
use Rattle.template_ids.specs.Long.{ForEach, IsSegment, is_segment_byte}
use Rattle.template_ids.proofs.LongNames.{all_named, segment_next, so_far}
use Rattle.template_ids.proofs.template.Template.names_segments.Goals as goal

pub loop-piece-preserved : goal.loop-piece-preserved
loop-piece-preserved c =
    let known = c.has_segment_bytes-id_is.ensures ∙ ap (list_all is_segment_byte) c.as_bytes.ensures.value in
    let here = c.is_segment.ensures c.if-not-is_segment.false c.args.id.now c.args.bandwidth known c.ranges.bandwidth.fits in
    segment_next c.args.self.now c.args.id.now c.args.bandwidth c.pieces-piece-items.result.now c.loop-piece.piece-index _
    c.loop-piece-test.true c.loop-piece.invariant (rw c.as_str-template.ensures.text at here)

pub returns : goal.returns
returns c is =
    let all : take c.loop-piece.piece-index c.pieces-piece-items.result.now ≡ c.pieces-piece-items.result.now =
    grind (arith, common_steps) in
    all_named c.args.self.now c.args.id.now c.args.bandwidth c.pieces-piece-items.result.now IsSegment
    c.pieces-piece-items.ensures (subst (λ ps. ForEach (so_far c.args.self.now c.args.id.now c.args.bandwidth ps) IsSegment) all
    c.loop-piece.invariant)

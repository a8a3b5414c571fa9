use Rattle.std.proofs.Common.{true, false, sym, ◌∙◌, arith}
use Rattle.hls_presentation.proofs.Grouping.{alike_turn, unlike}
use Rattle.hls_presentation.proofs.groups.Groups.is_alike.Goals as goal

pub returns-then-len : goal.returns-then-len
returns-then-len c = sym (unlike c.args.self.now c.args.other.now (λ same. c.if-len.true (c.len.ensures ∙ same ∙ sym c.len-2.ensures)))

pub returns-then-not-starts_alike : goal.returns-then-not-starts_alike
returns-then-not-starts_alike c =
    sym (sym c.loop-place.invariant ∙ alike_turn c.args.self.now c.args.other.now c.loop-place.place c.at.result.now
    c.at-in-loop-place.result.now false
    (omega arith) (omega arith) c.at.ensures c.at-in-loop-place.ensures (sym c.starts_alike.ensures ∙ c.if-not-starts_alike.true))

pub loop-place-preserved : goal.loop-place-preserved
loop-place-preserved c =
    sym (alike_turn c.args.self.now c.args.other.now c.loop-place.place c.at.result.now c.at-in-loop-place.result.now true
    (omega arith) (omega arith) c.at.ensures c.at-in-loop-place.ensures (sym c.starts_alike.ensures ∙ c.if-not-starts_alike.false))
    ∙ c.loop-place.invariant

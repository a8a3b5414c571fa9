use Rattle.timeline.proofs.durations.add_until.Goals as goal
use Rattle.std.proofs.{Common.{◌≡◌, ◌*◌, suc, inl, inr, arith}, lemmas.Bool.cases_lt}
use Rattle.timeline.proofs.{Laid.from_fault, Counted.{cut_none, cut_first, cut_late, cut_end}}

pub returns-in_default : goal.returns-in_default
returns-in_default c =
    let none : c.args.count ≡ 0 = elim (cases_lt 0 c.args.count) [ inl has ↦ absurd (c.in_default.ensures has) | inr none ↦ omega arith ] in
    cut_none c.args.builder.now c.args.ticks c.args.length c.args.duration c.args.count c.requires.fresh c.requires.scale none

pub returns-in_err-add_some : goal.returns-in_err-add_some
returns-in_err-add_some c =
    let more : c.args.count ≡ suc c.in-Some.whole = omega (arith, c.in-Some.ensures.0, c.in-Some.ensures.1) in
    from_fault c.from_residual.result c.in_err-add_some.field-0.0 _ _ c.from_residual.ensures
    (cut_first c.args.builder.now.limits c.requires.scale c.requires.fresh.origin c.args.length c.args.duration more
    c.in_err-add_some.field-0.0 c.in_err-add_some.ensures)

pub returns-then-from-former : goal.returns-then-from-former
returns-then-from-former c =
    let more : c.args.count ≡ suc c.in-Some.whole = omega (arith, c.in-Some.ensures.0, c.in-Some.ensures.1) in
    let bound : c.from.result * c.from-2.result ≡ c.args.length * c.args.ticks = cc (c.from.ensures, c.length.view_is, c.from-2.ensures) in
    let row = c.in_ok-add_some.ensures in
    cut_late c.args.builder.now.limits c.requires.scale c.requires.fresh.origin c.args.length c.args.duration more row.kept
    c.requires.lasting (omega (arith, row.laid.near, row.former)) (omega (arith, c.length.view_is, c.length.invariant))
    (omega (arith, bound, c.if-from-former.true, c.former.ensures, row.former))

pub returns : goal.returns
returns c =
    let more : c.args.count ≡ suc c.in-Some.whole = omega (arith, c.in-Some.ensures.0, c.in-Some.ensures.1) in
    let bound : c.from.result * c.from-2.result ≡ c.args.length * c.args.ticks = cc (c.from.ensures, c.length.view_is, c.from-2.ensures) in
    cut_end c.args.builder.now.limits c.requires.scale c.requires.fresh.origin c.args.length c.args.duration more
    c.add_some.new.builder c.add_last.new.builder c.add_last.result c.in_ok-add_some.ensures
    (omega (arith, bound, c.if-from-former.false, c.former.ensures)) c.add_last.ensures

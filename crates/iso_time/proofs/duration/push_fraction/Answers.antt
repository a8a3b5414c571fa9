use Rattle.iso_time.proofs.duration.push_fraction.Goals as goal
use Rattle.std.proofs.{Common.{◌≡◌, ◌+◌, ◌-◌, ◌∙◌, length-append, arith, ne_eqb}, Math.Nat.mod-one}
use Rattle.exact_time.proofs.Decimals.{ten_pow-pos}
use Rattle.iso_time.proofs.PlaceLemmas.{without_zeros-none, without_zeros-more, written_end, written_more}

pub nonzero_rem-nanos : goal.nonzero_rem-nanos
nonzero_rem-nanos c = omega (arith, ten_pow-pos (c.loop-place.place - 1 + 1))

pub returns-then-nanos-pow-eq0-clause-text : goal.returns-then-nanos-pow-eq0-clause-text
returns-then-nanos-pow-eq0-clause-text c =
    let l = c.loop-place in
    let k : l.place - 1 + 1 ≡ l.place = omega arith in
    let none = without_zeros-none l.place c.args.nanos (rw k at (rw c.pow.ensures at c.if-nanos-pow-eq0.true)) in
    rw (ne_eqb _ _ c.if-nanos-eq0.false) (written_end _ _ _ none l.invariant.0)

pub loop-place-preserved : goal.loop-place-preserved
loop-place-preserved c =
    let l = c.loop-place in
    let k : l.place - 1 + 1 ≡ l.place = omega arith in
    let more = without_zeros-more l.place (l.place - 1) c.args.nanos (omega arith)
    (rw k at (rw c.pow.ensures at c.if-nanos-pow-eq0.false)) in
    let pushed = c.push-in-loop-place.ensures.ascii (omega arith) in
    let digit = c.from.ensures ∙ c.digit.ensures in (
      written_more _ _ _ _ _ _ more l.invariant.0 (rw digit at pushed),
      rw (pushed, length-append) (omega (arith, l.invariant.1)),
    )

pub returns-clause-text : goal.returns-clause-text
returns-clause-text c =
    let l = c.loop-place in
    let end : l.place ≡ 0 = omega arith in
    let none = without_zeros-none l.place c.args.nanos (rw end (mod-one c.args.nanos)) in
    rw (ne_eqb _ _ c.if-nanos-eq0.false) (written_end _ _ _ none l.invariant.0)

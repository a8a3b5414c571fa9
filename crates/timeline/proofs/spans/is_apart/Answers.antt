use Rattle.timeline.proofs.spans.is_apart.Goals as goal
use Rattle.std.proofs.{Common.{◌≡◌, ℕ, ◌*◌, ◌<◌, ◌≤◌, ◌^◌, ◌∙◌, ℤ, sym, ap, rules, arith, mul-le-mul}, lemmas.Int.to_z-of_z}
use Rattle.std.specs.Prelude.{unsigned_abs}
use Rattle.timeline.proofs.Counted.{is_apart_span, far_apart, short_lasts}
use mir.Val.{Fits, SFits, to_z, of_z}
use mir.Syntax.{w32, w128}

gap_is : (r d : ℤ) (gap : ℕ) → SFits w128 r → r ≡ d → gap ≡ unsigned_abs (to_z w128 (of_z w128 r)) → unsigned_abs d ≡ gap
gap_is r d gap fits same is = cc (to_z-of_z w128 r fits)

-- no product is out of range where neither time is far
small : (lasts gap s e f : ℕ) → lasts ≤ 1000000 * (s * e) → gap ≤ 1000000 * (f * s) → Fits w32 s → Fits w32 e → Fits w32 f
    → (lasts * f < 2 ^ 128) × (2 * gap * e < 2 ^ 128)
small lasts gap s e f short near s_fits e_fits f_fits =
    let s_le : s ≤ 2 ^ 32 = omega (arith, s_fits.fits) in
    let e_le : e ≤ 2 ^ 32 = omega (arith, e_fits.fits) in
    let f_le : f ≤ 2 ^ 32 = omega (arith, f_fits.fits) in
    let scales : s * e ≤ 2 ^ 32 * 2 ^ 32 = mul-le-mul s_le e_le in
    let others : f * s ≤ 2 ^ 32 * 2 ^ 32 = mul-le-mul f_le s_le in
    let lasts_le : lasts ≤ 1000000 * (2 ^ 32 * 2 ^ 32) = omega arith in
    let gap_le : 2 * gap ≤ 2 * (1000000 * (2 ^ 32 * 2 ^ 32)) = omega arith in
    let left : lasts * f ≤ 1000000 * (2 ^ 32 * 2 ^ 32) * 2 ^ 32 = mul-le-mul lasts_le f_le in
    let right : 2 * gap * e ≤ 2 * (1000000 * (2 ^ 32 * 2 ^ 32)) * 2 ^ 32 = mul-le-mul gap_le e_le in
    (omega arith, omega arith)

pub overflow_mul-result : goal.overflow_mul-result
overflow_mul-result c =
    let short = short_lasts c.args.start c.args.end c.lasting-lasts.result c.lasting-lasts.ensures.value c.requires.short in
    let both = small c.lasting-lasts.result 0 c.args.start.scale c.args.end.scale c.args.former.scale short
    (omega arith) (search rules) (search rules) (search rules) in
    record { fits = omega (arith, both.0, ap (λ (n : ℕ). c.lasting-lasts.result * n) c.from-2.ensures) }

pub overflow_mul-result-3 : goal.overflow_mul-result-3
overflow_mul-result-3 c =
    let short = short_lasts c.args.start c.args.end c.lasting-lasts.result c.lasting-lasts.ensures.value c.requires.short in
    let near : c.unsigned_abs-gap.result ≤ 1000000 * (c.args.former.scale * c.args.start.scale) =
    omega (arith, c.if-from-scales.false, ap (λ (n : ℕ). n * c.scales.result) c.from.ensures, c.scales.ensures.value) in
    let both = small c.lasting-lasts.result c.unsigned_abs-gap.result c.args.start.scale c.args.end.scale c.args.former.scale short near
    (search rules) (search rules) (search rules) in
    record { fits = omega (arith, both.1, ap (λ (n : ℕ). 2 * c.unsigned_abs-gap.result * n) c.from-3.ensures) }

pub returns : goal.returns
returns c =
    let fits : SFits w128 c.between.result = search rules in
    let is = gap_is c.between.result _ c.unsigned_abs-gap.result fits c.between.ensures.value c.unsigned_abs-gap.ensures.value in
    rw (c.from-2.ensures, c.from-3.ensures) (sym (is_apart_span c.args.start c.args.end c.lasting-lasts.result
    c.lasting-lasts.ensures.value c.args.former c.unsigned_abs-gap.result is))

pub returns-then-from-scales : goal.returns-then-from-scales
returns-then-from-scales c =
    let fits : SFits w128 c.between.result = search rules in
    let is = gap_is c.between.result _ c.unsigned_abs-gap.result fits c.between.ensures.value c.unsigned_abs-gap.ensures.value in
    let lasts = c.lasting-lasts.ensures.value in
    sym (is_apart_span c.args.start c.args.end c.lasting-lasts.result lasts c.args.former c.unsigned_abs-gap.result is
    ∙ far_apart c.args.start c.args.end c.lasting-lasts.result lasts c.args.former c.unsigned_abs-gap.result
    (short_lasts c.args.start c.args.end c.lasting-lasts.result lasts c.requires.short)
    (omega (arith, c.if-from-scales.true, ap (λ (n : ℕ). n * c.scales.result) c.from.ensures, c.scales.ensures.value)))

use Rattle.std.proofs.Common.{◌≡◌, ◌∙◌, ap, arith, rules, pos, ◌*ℤ◌, ◌+ℤ◌, SFits, sym, unsigned_abs}
use Rattle.std.proofs.lemmas.Int.{ints, to_z-of_z}
use Rattle.std.specs.Int.{w128, int_div_euclid, int_rem_euclid}
use Rattle.differences.proofs.Nearness.{euclid}
use Rattle.differences.proofs.rounded.Rounded.of.Goals as goal

pub returns-clause-value : goal.returns-clause-value
returns-clause-value c =
    let n = c.args.time.ticks *ℤ pos 1000000000 in let scale = c.args.time.scale in
    let f1 : SFits w128 c.args.time.ticks = search rules in
    let f2 : SFits w128 n = search rules in
    let f3 : SFits w128 c.from-scale.result = search rules in
    let d : c.div_euclid.result ≡ int_div_euclid n c.from-scale.result = simp to_z-of_z at c.div_euclid.ensures in
    let r : c.rem_euclid.result ≡ int_rem_euclid n c.from-scale.result = simp to_z-of_z at c.rem_euclid.ensures.value in
    let e : c.div_euclid.result *ℤ pos scale +ℤ c.rem_euclid.result ≡ n =
    rw (d ∙ ap (int_div_euclid n) c.from-scale.ensures, r ∙ ap (int_rem_euclid n) c.from-scale.ensures)
    (euclid n scale c.args.time.positive) in
    let f4 : SFits w128 c.div_euclid.result = search rules in
    let f5 : SFits w128 c.rem_euclid.result = search rules in
    let rest : c.rem_euclid.result ≡ pos (unsigned_abs c.rem_euclid.result) = omega (arith, ints, c.rem_euclid.ensures.lower_bound) in
    rw (to_z-of_z w128 c.div_euclid.result f4, to_z-of_z w128 c.rem_euclid.result f5)
    (sym e ∙ ap (λ z. c.div_euclid.result *ℤ pos scale +ℤ z) rest)

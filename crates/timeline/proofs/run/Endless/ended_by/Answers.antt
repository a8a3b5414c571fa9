use Rattle.timeline.proofs.run.Endless.ended_by.Goals as goal
use Rattle.std.proofs.{Common.{ℕ, pos, ◌+ℤ◌, ◌≤ℤ◌, ◌<ℤ◌, ◌/◌, ◌+◌, ◌*◌, ◌<◌, ◌^◌, neg_ℤ, rules, ap, ◌∙◌, sym, arith}, lemmas.Int.ints}
use Rattle.timeline.specs.Bounds.{time_of_bound}
use Rattle.timeline.proofs.{Ratios.quotient-low, Repeats.{ends_by-before, ends_by-start, ended_by-row}, LimitLemmas.abs-bounds}

pub returns-then-last-self-clause-count : goal.returns-then-last-self-clause-count
returns-then-last-self-clause-count c =
    let e = c.args.self.now in
    let count = ended_by-row (time_of_bound c.args.bound) e.start.scale e.start.n e.step c.args.bound.positive e.start.positive
    c.requires.lasting in
    let early : c.ticks-last.result <ℤ e.start.n = grind (arith, ints) in
    sym (count ∙ ends_by-before _ (e.start.n +ℤ pos e.step) e.step (omega (arith, ints, early, c.ticks-last.ensures)))

pub returns-clause-count : goal.returns-clause-count
returns-clause-count c =
    let e = c.args.self.now in
    let count = ended_by-row (time_of_bound c.args.bound) e.start.scale e.start.n e.step c.args.bound.positive e.start.positive
    c.requires.lasting in
    let late : e.start.n ≤ℤ c.ticks-last.result = grind (arith, ints) in
    ap (λ (n : ℕ). c.abs_diff.result / n) c.from.ensures
    ∙ sym (count ∙ ends_by-start _ e.start.n e.step c.abs_diff.result c.requires.lasting (omega (arith, ints, c.ticks-last.ensures)))

pub returns-clause-reached : goal.returns-clause-reached
returns-clause-reached c =
    let e = c.args.self.now in
    let t : e.start.n ≤ℤ c.ticks-last.result = grind (arith, ints) in
    let high : c.ticks-last.result <ℤ pos (2 ^ 127) = search rules in
    let low : neg_ℤ (pos (2 ^ 64)) <ℤ e.start.n = (abs-bounds e.start.n (2 ^ 64) e.start.bounded).1 in
    let gap : c.abs_diff.result < 2 ^ 127 + 2 ^ 64 = omega (arith, ints) in
    let product = ap (λ (n : ℕ). c.abs_diff.result / c.from.result * n) (sym c.from.ensures) in
    omega (arith, quotient-low c.abs_diff.result c.from.result, product, gap)

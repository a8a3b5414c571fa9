use Rattle.timeline.proofs.run.Run.ended_by.Goals as goal
use Rattle.std.proofs.{Common.{◌≡◌, ℕ, pos, ◌+ℤ◌, ◌≤ℤ◌, ◌<ℤ◌, ◌/◌, ap, arith}, lemmas.Int.ints}
use Rattle.timeline.specs.{Bounds.time_of_bound, RunSegments.timed}
use Rattle.timeline.proofs.{Ratios.floor_ticks, Repeats.{ends_by-before, ends_by-at, count_ended-run}}

pub returns-then-last-self : goal.returns-then-last-self
returns-then-last-self c =
    let e = count_ended-run (time_of_bound c.args.bound) (timed c.args.self.now) c.args.bound.positive c.requires in
    let last = floor_ticks (time_of_bound c.args.bound) c.args.self.now.end.scale in
    let early : c.ticks-last.result <ℤ c.args.self.now.end.n = grind (arith, ints) in
    omega (arith, e, ends_by-before last c.args.self.now.end.n c.args.self.now.step (omega (arith, ints, c.ticks-last.ensures)))

pub returns : goal.returns
returns c =
    let e = count_ended-run (time_of_bound c.args.bound) (timed c.args.self.now) c.args.bound.positive c.requires in
    let last = floor_ticks (time_of_bound c.args.bound) c.args.self.now.end.scale in
    let late : c.args.self.now.end.n ≤ℤ c.ticks-last.result = grind (arith, ints) in
    let gap : last ≡ c.args.self.now.end.n +ℤ pos c.abs_diff.result = omega (arith, ints, c.ticks-last.ensures) in
    let at = ends_by-at last c.args.self.now.end.n c.args.self.now.step c.abs_diff.result gap in
    let quotient = ap (λ (n : ℕ). c.abs_diff.result / n) c.from.ensures in
    omega (arith, e, at, quotient)

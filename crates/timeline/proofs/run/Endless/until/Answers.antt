use Rattle.timeline.proofs.run.Endless.until.Goals as goal
use Rattle.std.proofs.{Common.{◌≡◌, ℕ, ◌+◌, ◌*◌, ◌<◌, ap, sym, refl, arith}, lemmas.Int.ints}
use Rattle.timeline.specs.{Bounds.time_of_bound, Expansions.repeated, RunSegments.{endless_count, first_of}}

pub returns-then-count-eq0-clause-extents : goal.returns-then-count-eq0-clause-extents
unfolding repeated
returns-then-count-eq0-clause-extents c =
    let none : endless_count c.args.self.now (time_of_bound c.args.bound) ≡ 0 = omega (arith, c.ended_by-count.ensures.count) in
    sym (ap (λ (n : ℕ). repeated n (first_of c.args.self.now)) none)

pub returns-clause-tail : goal.returns-clause-tail
returns-clause-tail c =
    let e = c.args.self.now in
    let count = c.ended_by-count.result in
    let same : count ≡ endless_count e (time_of_bound c.args.bound) = c.ended_by-count.ensures.count in
    let times = ap (λ (n : ℕ). (n + 1) * e.step) same in
    let some : 0 < count = omega (arith, c.if-count-eq0.false) in
    let room = c.requires.room.near (omega arith) in (
      refl,
      some,
      record {
        start_is = e.start.positive;
        end_is = c.later.result.positive;
        start_near = e.start.bounded;
        end_near = c.later.result.bounded;
        lasting = c.requires.is.lasting;
        one_scale = λ _. sym c.later.ensures.scale;
        in_ticks = λ _. omega (arith, ints, c.later.ensures.ticks, c.from.ensures);
        near = omega (arith, ints, room, times, c.later.ensures.ticks, c.from.ensures);
        countable = omega (arith, c.requires.room.countable);
      },
    )

use Rattle.timeline.proofs.builder.RunsBuilder.go_on.Goals as goal
use Rattle.std.proofs.{Common.{◌≡◌, ◌*◌, ◌+◌, ◌≤◌, pos, ◌+ℤ◌, ◌-ℤ◌, ap, sym, ◌∙◌, refl, arith}, lemmas.Int.ints}
use Rattle.exact_time.specs.Time.{Time}
use Rattle.timeline.specs.Ratios.{natural}
use Rattle.timeline.proofs.Laid.{room_before}

pub returns-clause-laid : goal.returns-clause-laid
returns-clause-laid c =
    let old = c.args.self.now in
    let start : c.placed-start.result.n ≡ pos c.args.start -ℤ pos old.limits.origin = ap (λ (a : Time). a.ticks) c.placed-start.ensures in
    let media : c.placed-start.result.n +ℤ pos old.limits.origin ≡ pos c.args.start = omega (arith, ints) in
    let room : 2 * old.total ≤ 2 * c.args.start + c.args.step = room_before old c.args.start c.args.step (sym c.is_apart.ensures
    ∙ c.if-is_apart.false) c.requires.laid.room in
    record {
      laid = c.requires.laid.laid.laid;
      follows = record {
        is = record { lasting = c.requires.lasting };
        short = omega arith;
        place = refl;
        scale = ap (λ (a : Time). a.scale) c.placed-start.ensures;
        placed = omega (arith, ints, media);
        room = omega (arith, room, ap natural media);
      };
      countable = c.requires.laid.laid.countable;
      timed = c.requires.laid.laid.timed;
    }

use Rattle.timeline.proofs.run.Run.longer.Goals as goal
use Rattle.std.proofs.{Common.{◌≡◌, ◌*◌, refl, sym, ◌∙◌, arith}, lemmas.Int.ints}
use Rattle.exact_time.specs.Tick.{time_of}
use Rattle.timeline.specs.RunSegments.{one_extent, timed}
use Rattle.timeline.proofs.{Repeats.{longer, moved_time}, run.Run.longer.Goals.then-not-begins-via-then-not-begins}
use Rattle.timeline.proofs.run.Run.longer.Goals.{then-not-begins-via-else-not-begins+then-not-ends}
use Rattle.timeline.proofs.run.Run.longer.Goals.{then-not-begins-via-else-not-begins+else-not-ends+then-end-step}

pub returns-then-not-begins : goal.returns-then-not-begins
returns-then-not-begins c on =
    let product : c.from.result * c.from-2.result ≡ c.args.self.count * c.args.self.step = rw (c.from.ensures, c.from-2.ensures) refl in
    let begins = c.is_same-begins.ensures.1 (moved_time (time_of c.args.self.start)
    (time_of c.later.result) _ _ c.later.ensures.ticks c.later.ensures.scale product ∙ sym on.start_is) in
    let ends = c.is_same-ends.ensures.1 (moved_time (time_of c.args.self.end)
    (time_of c.later-2.result) _ _ c.later-2.ensures.ticks c.later-2.ensures.scale product ∙ sym on.end_is) in
    elim c.then-not-begins.branch [
      | then-not-begins-via-then-not-begins w ↦ cc
      | then-not-begins-via-else-not-begins+then-not-ends w ↦ cc
      | then-not-begins-via-else-not-begins+else-not-ends+then-end-step w ↦ absurd (omega (arith, ints, on.near))
    ]

pub returns : goal.returns
returns c =
    let product : c.from.result * c.from-2.result ≡ c.args.self.count * c.args.self.step = rw (c.from.ensures, c.from-2.ensures) refl in
    longer (timed c.args.self) (one_extent c.args.start c.args.end) c.requires.is c.requires.countable (record {
      one_scale = omega arith;
      in_ticks = omega (arith, ints);
      start_is = sym (c.is_same-begins.ensures.0 cc)
          ∙ moved_time (time_of c.args.self.start) (time_of c.later.result) _ _ c.later.ensures.ticks c.later.ensures.scale product;
      end_is = sym (c.is_same-ends.ensures.0 cc)
          ∙ moved_time (time_of c.args.self.end) (time_of c.later-2.result) _ _ c.later-2.ensures.ticks c.later-2.ensures.scale product;
      near = omega (arith, ints);
    })

use Rattle.live_judge.proofs.track_next.TrackNext.times.Goals as goal
use Rattle.std.proofs.Common.{◌∙◌, ap, arith}
use Rattle.exact_time.specs.{Tick.time_of, Rounding.rounding_behind}
use Rattle.presentation.specs.Kept.{durations_behind}
use Rattle.timeline.specs.Listed.{timing_of}
use Rattle.live_judge.proofs.NewDurations.{begun, durations_anew, durations_same, paced_same}

pub behind-requires-clause-begun : goal.behind-requires-clause-begun
behind-requires-clause-begun c = begun c.args.self.now c.requires.next c.args.section c.requires.section c.last-last.result
    c.last-last.ensures.last c.last-last.ensures.place

pub behind-requires-clause-paced : goal.behind-requires-clause-paced
behind-requires-clause-paced c =
    paced_same c.args.self.now c.requires.next c.args.section c.requires.section c.last-last.result c.last-last.ensures.last
    c.last-last.ensures.place
    (timing_of c.in_ok-start.field-0) c.in_ok-start.ensures.0 c.in_ok-start.ensures.1 c.number.result c.number.ensures (omega arith)
    c.requires.joined c.unit-unit.result c.in_ok-walk.walk c.in_ok-walk.ensures.0 c.in_ok-walk.ensures.1 c.in_ok-walk.ensures.2

pub returns-then-number-last : goal.returns-then-number-last
returns-then-number-last c = (
  c.behind.ensures.paced,
  c.behind.ensures.left ∙ ap (durations_behind (rounding_behind (time_of c.last-last.result.begin) c.unit-unit.result
      (time_of c.last-last.result.end))) c.in_ok-walk.ensures.0
      ∙ durations_same c.args.self.now c.requires.next c.args.section c.requires.section c.last-last.result c.last-last.ensures.last
      c.last-last.ensures.place
      c.unit-unit.result c.number.result c.unit-unit.ensures.value c.number.ensures (omega arith),
)

pub returns-else-number-last : goal.returns-else-number-last
returns-else-number-last c = (
  c.behind-else-number-last.ensures.paced,
  c.behind-else-number-last.ensures.left
      ∙ ap (durations_behind (rounding_behind (time_of c.in_ok-start.field-0.start) c.unit-unit.result
      (time_of c.in_ok-start.field-0.start))) c.in_ok-walk.ensures.0
      ∙ durations_anew c.args.self.now c.requires.next c.args.section c.requires.section c.last-last.result c.last-last.ensures.last
      c.last-last.ensures.place
      c.unit-unit.result c.number.result (timing_of c.in_ok-start.field-0) c.unit-unit.ensures.value c.number.ensures
      c.if-number-last.false c.in_ok-start.ensures.0,
)

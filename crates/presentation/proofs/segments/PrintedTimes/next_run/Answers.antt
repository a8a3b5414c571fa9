use Rattle.presentation.proofs.segments.PrintedTimes.next_run.Goals as goal
use Rattle.std.proofs.Common.{◌≡◌, ◌-◌, ◌*◌, ◌++◌, ◌∷◌, ◌∙◌, ap, sym}
use Rattle.exact_time.specs.{Equal.{equal_durations, summed_up, ticks_after}, Rounding.Rounding}
use Rattle.timeline.specs.SpanRuns.{timings_of}
use Rattle.presentation.specs.{Kept.printed_left, Printing.with_durations}
use Rattle.presentation.proofs.NextRun.{others_near, paced_run, past_all, past_first, printed_run}

pub next_equal-others-requires-clause-near : goal.next_equal-others-requires-clause-near
next_equal-others-requires-clause-near c = let run = c.in_ok-spans.spans in let r = c.self.inside.rounder in
    rw c.next-first.ensures.kept (others_near r c.self.inside.walk c.next_run.new.self run c.in_ok-spans.ensures c.self.invariant)

pub invariant_of-self-2 : goal.invariant_of-self-2
invariant_of-self-2 c = let run = c.in_ok-spans.spans in let r = c.self.inside.rounder in
    rw (c.next_equal-others.ensures.kept, c.next-first.ensures.kept)
    (paced_run r c.self.inside.walk c.next_run.new.self run c.in_ok-spans.ensures c.self.invariant)

pub returns : goal.returns
returns c =
    let run = c.in_ok-spans.spans in
    let r = c.self.inside.rounder in
    let walk = c.self.inside.walk in
    let new = c.next_run.new.self in
    let is = c.in_ok-spans.ensures in
    let kept = c.next-first.ensures.kept in
    let durations = equal_durations (past_first r walk new run is) run.step (run.count - 1) in
    let behind : c.next_equal-others.new.self ≡ past_all r walk new run is =
    c.next_equal-others.ensures.kept
    ∙ ap (λ (q : Rounding). record q { former = ticks_after q.former ((run.count - 1) * run.step) }) kept in
    let called = rw kept at c.next-first.ensures.printed in
    record {
      durations = durations;
      next = sym c.self.view_is ∙ printed_run r walk new run is c.next-first.result called
          ∙ ap (λ q. with_durations (timings_of run) (c.next-first.result ∷ durations) ++ printed_left new q) (sym behind);
      some = is.some;
      others = c.next_equal-others.ensures.durations ∙ ap (λ q. summed_up (equal_durations q run.step (run.count - 1))) kept;
      even = rw kept at c.next_equal-others.ensures.even;
      countable = is.countable;
    }

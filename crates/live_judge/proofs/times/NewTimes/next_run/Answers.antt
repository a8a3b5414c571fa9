use Rattle.live_judge.proofs.times.NewTimes.next_run.Goals as goal
use Rattle.std.proofs.Common.{◌≡◌, ◌-◌, ◌*◌, ◌++◌, ◌∷◌, ◌∙◌, ap, sym, subst, refl}
use Rattle.exact_time.specs.{Tick.time_of, Equal.{equal_durations, summed_up, ticks_after}, Rounding.Rounding}
use Rattle.presentation.specs.Kept.{durations_behind}
use Rattle.presentation.proofs.NextRun.{others_near, past_all, past_first}
use Rattle.live_judge.specs.Times.{IsPacedBy}
use Rattle.live_judge.proofs.RunDurations.{begun_before, paced_next, run_split, second_fits, told_second}

pub second_of-second-requires-clause-begun : goal.second_of-second-requires-clause-begun
second_of-second-requires-clause-begun c = let t = c.args.self.now in
    begun_before (time_of t.first) t.unit t.rounder t.walk c.next_run.new.self c.in_ok-spans.spans c.in_ok-spans.ensures c.requires

pub second_of-second-requires-clause-near : goal.second_of-second-requires-clause-near
second_of-second-requires-clause-near c = let t = c.args.self.now in
    second_fits (time_of t.first) t.unit t.rounder t.walk c.next_run.new.self c.in_ok-spans.spans c.in_ok-spans.ensures c.requires

pub next_equal-others-requires-clause-near : goal.next_equal-others-requires-clause-near
next_equal-others-requires-clause-near c = let t = c.args.self.now in
    rw c.next-first.ensures.kept (others_near t.rounder t.walk c.next_run.new.self c.in_ok-spans.spans c.in_ok-spans.ensures
    c.requires.paced)

pub returns : goal.returns
returns c =
    let t = c.args.self.now in
    let run = c.in_ok-spans.spans in
    let r = t.rounder in
    let walk = t.walk in
    let new = c.next_run.new.self in
    let is = c.in_ok-spans.ensures in
    let kept = c.next-first.ensures.kept in
    let past = past_first r walk new run is in
    let others = equal_durations past run.step (run.count - 1) in
    let behind : c.next_equal-others.new.self ≡ past_all r walk new run is =
    c.next_equal-others.ensures.kept
    ∙ ap (λ (q : Rounding). record q { former = ticks_after q.former ((run.count - 1) * run.step) }) kept in
    let called = rw kept at c.next-first.ensures.printed in
    record {
      ds = c.next-first.result ∷ others;
      next =
          run_split r walk new run is c.next-first.result called
          ∙ ap (λ (q : Rounding). (c.next-first.result ∷ others) ++ durations_behind q new) (sym behind);
      tells = record {
        others = others;
        is = refl;
        summed = c.next_equal-others.ensures.durations ∙ ap (λ (q : Rounding). summed_up (equal_durations q run.step (run.count - 1))) kept;
        even = rw kept at c.next_equal-others.ensures.even;
        second = told_second (time_of t.first) t.unit r walk new run is c.requires c.second_of-second.result c.second_of-second.ensures;
      };
      paced = subst (λ (q : Rounding). IsPacedBy new q (time_of t.first) t.unit) (sym behind)
          (paced_next (time_of t.first) t.unit r walk new run is c.requires);
    }

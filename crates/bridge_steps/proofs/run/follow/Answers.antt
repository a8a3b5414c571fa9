use Rattle.std.proofs.Common.{◌∙◌}
use Rattle.bridge_courses.proofs.Stepping.{falls_then}
use Rattle.bridge_steps.proofs.{Caused.caused_by_later, Grown.grown_then, Whole.over_both}
use Rattle.bridge_steps.proofs.run.follow.Goals as goal

pub loop-told-preserved : goal.loop-told-preserved
loop-told-preserved g c = let so_far = c.loop-told.invariant in let next = c.in-Ok.ensures in record {
  going = next.going;
  leads = λ bytes remaining files seen.
      let led = so_far.leads bytes remaining files seen in
      let on = next.next led.0 led.1 led.2 led.3 in
      (on.0, on.1, on.2, on.3, λ how after work. led.4 how after (on.4 how after work));
  never_falls = falls_then _ _ _ so_far.never_falls next.never_falls;
  told = grown_then _ _ _ so_far.told next.told;
  reads = λ unread. next.reads unread ∙ so_far.reads unread;
}

pub returns-in-Err-clause-runs : goal.returns-in-Err-clause-runs
returns-in-Err-clause-runs g c = let so_far = c.loop-told.invariant in let ends = c.in-Err.ensures in record {
  work = over_both _ _ _ _ (λ files seen bytes remaining.
      let led = so_far.leads bytes remaining files seen in
      led.4 c.in-Err.told _ (ends.next led.0 led.1 led.2 led.3));
  never_falls = falls_then _ _ _ so_far.never_falls ends.never_falls;
  told = grown_then _ _ _ so_far.told ends.told;
}

pub returns-in-Err-clause-caused : goal.returns-in-Err-clause-caused
returns-in-Err-clause-caused g c =
    caused_by_later c.in-Err.told _ _ _ _ c.loop-told.invariant.never_falls c.in-Err.ensures.caused

use Rattle.exact_time.specs.Tick.{time_of}
use Rattle.exact_time.proofs.TimeOrder.{IsAtMost-trans}
use Rattle.presentation.proofs.extent.last_end.Goals as goal

pub loop-span-preserved : goal.loop-span-preserved
loop-span-preserved c = let kept = c.loop-span.invariant in
    let last = rw c.in-Some.ensures.steps at kept.last in
    let rising = rw c.in-Some.ensures.steps at kept.rising in record {
      can = tt;
      finite = tt;
      last = last;
      rising = rising.2;
      not_before = IsAtMost-trans (time_of c.args.first.start) (time_of c.loop-span.last)
          (time_of c.in-Some.span.end) c.loop-span.last.positive kept.not_before rising.1;
    }

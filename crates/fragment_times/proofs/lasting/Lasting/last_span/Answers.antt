use Rattle.fragment_times.proofs.lasting.Lasting.last_span.Goals as goal
use Rattle.std.proofs.{Common.{None, option_map, sym, ap, ◌∙◌}, lemmas.List.Elements.{All-head, All-tail}}
use Rattle.timeline.specs.{Listed.timing_of, Steady.IsWithinLimits}
use Rattle.fragment_times.specs.Durations.{last_behind}
use Rattle.fragment_times.proofs.Listed.{is_reached, listed_whole}

pub seek-requires-clause-reached : goal.seek-requires-clause-reached
seek-requires-clause-reached c =
    is_reached c.args.self.now.presentation.now c.args.section c.args.track c.runs-runs.result.now c.runs-runs.ensures.content
    c.closed_ends.ensures.reached c.requires.ended c.window-window.result

pub walk-span-items-requires-clause-reached : goal.walk-span-items-requires-clause-reached
walk-span-items-requires-clause-reached c =
    is_reached c.args.self.now.presentation.now c.args.section c.args.track c.runs-runs.result.now c.runs-runs.ensures.content
    c.closed_ends.ensures.reached c.requires.ended c.window-window.result

pub loop-span-init : goal.loop-span-init
loop-span-init c =
    let gives = c.into_iter-span-iterator.ensures.into_iter_gives in
    record {
      can_next = tt;
      finite = tt;
      limits = rw gives c.walk-span-items.ensures.limits;
      kept = tt;
      last = ap (last_behind None) (gives ∙ c.walk-span-items.ensures.listed
          ∙ listed_whole c.args.self.now.presentation.now c.args.section c.args.track c.runs-runs.result.now c.runs-runs.ensures.content
          c.window-window.result c.seek.result c.window-window.ensures c.seek.ensures.first);
    }

pub loop-span-preserved : goal.loop-span-preserved
loop-span-preserved c =
    let l = c.loop-span in let x = timing_of c.in-Some.span in let steps = c.in-Some.ensures.steps in
    let limits = rw steps at l.invariant.limits in
    record {
      can_next = tt;
      finite = tt;
      limits = All-tail IsWithinLimits x c.next.new.self limits;
      kept = All-head IsWithinLimits x c.next.new.self limits;
      last = sym (ap (last_behind (option_map timing_of l.last)) steps) ∙ l.invariant.last;
    }

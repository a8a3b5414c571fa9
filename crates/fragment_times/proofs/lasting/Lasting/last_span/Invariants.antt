use Rattle.fragment_times.proofs.lasting.Lasting.last_span.Given as goal
use Rattle.std.proofs.Common.{◌≡◌, All, IfSome, option_map}
use Rattle.timeline.specs.{Listed.timing_of, Steady.IsWithinLimits}
use Rattle.presentation.specs.Presented.{listed_at}
use Rattle.fragment_times.specs.Durations.{last_behind, last_of}

-- the last one of those so far, and then of those that are left, is the last one of all
abbrev pub invariant-loop-span : goal.invariant-loop-span
invariant-loop-span l = record {
  can_next : (goal.iterator-loop-span).can_next l.span-iterator;
  finite : (goal.iterator-loop-span).is_finite l.span-iterator;
  limits : All IsWithinLimits l.span-iterator;
  kept : IfSome l.last (λ span. IsWithinLimits (timing_of span));
  last : last_behind (option_map timing_of l.last) l.span-iterator ≡ last_of (listed_at l.fn.self.presentation.now l.section l.track);
}

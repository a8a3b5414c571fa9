use Rattle.presentation.proofs.extent.last_end.Given as goal
use Rattle.std.proofs.Common.{◌≡◌}
use Rattle.exact_time.specs.{Tick.time_of, Time.IsAtMost, Rounding.IsRising}
use Rattle.presentation.specs.{Printing.ends_of, Verifying.last_end}

-- the segments that are left end last as all of them do
abbrev pub invariant-loop-span : goal.invariant-loop-span
invariant-loop-span l = record {
  can : goal.iterator-loop-span.can_next l.span-iterator;
  finite : goal.iterator-loop-span.is_finite l.span-iterator;
  last : last_end (time_of l.last) l.span-iterator ≡ last_end (time_of l.fn.first.end) l.fn.walk;
  rising : IsRising (time_of l.last) (ends_of l.span-iterator);
  not_before : IsAtMost (time_of l.fn.first.start) (time_of l.last);
}

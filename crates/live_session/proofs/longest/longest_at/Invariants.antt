use Rattle.live_session.proofs.longest.longest_at.Given as goal
use Rattle.std.proofs.Common.{◌≡◌, ◌^◌, max}
use Rattle.presentation.specs.{Presented.looked_at, Verifying.{longest_at, longest_left}}

abbrev pub invariant-loop-timed : goal.invariant-loop-timed
invariant-loop-timed l = record {
  can : goal.iterator-loop-timed.can_next l.timed-iterator;
  finite : goal.iterator-loop-timed.is_finite l.timed-iterator;
  longest : longest_at (looked_at l.fn.now l.fn.presentation) (10 ^ l.fn.digits) l.fn.track l.fn.section
      ≡ max l.longest (longest_left l.timed-iterator);
}

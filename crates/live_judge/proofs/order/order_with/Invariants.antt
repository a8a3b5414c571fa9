use Rattle.std.proofs.Common.{◌≤◌, length, map}
use Rattle.live_meaning.specs.Known.{ids_of}
use Rattle.live_judge.specs.{Known.known_shown, Order.IsOrderOf}
use Rattle.live_judge.proofs.order.order_with.Given as goal

abbrev pub invariant-loop-place : goal.invariant-loop-place
invariant-loop-place l = (l.place ≤ length l.periods) × IsOrderOf (ids_of (map known_shown l.periods)) l.place l.order.items

use Rattle.exact_time.proofs.rounder.Rounder.new.Goals as goal
use Rattle.std.proofs.Common.{sym}
use Rattle.exact_time.specs.Tick.{time_of}
use Rattle.exact_time.proofs.{TimeOrder.IsAtMost_refl, Floors.floor_in-difference_self}

pub invariant_of-result : goal.invariant_of-result
invariant_of-result c = record {
  low = c.requires.low;
  high = c.requires.high;
  begun = IsAtMost_refl (time_of c.args.first);
  floor_is = sym (floor_in-difference_self c.args.unit (time_of c.args.first));
}

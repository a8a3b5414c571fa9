use Rattle.fragment_times.proofs.laws.offsets_are_one_time.Goals as goal
use Rattle.fragment_times.proofs.Origins.{offsets_are_before, offsets_are_one_time, origins_are_latest, origins_are_near, units_are_common}

pub returns : goal.returns
returns c = record {
  units = units_are_common;
  same = offsets_are_one_time;
  before = offsets_are_before;
  near = origins_are_near;
  latest = origins_are_latest;
}

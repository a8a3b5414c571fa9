use Rattle.exact_time.proofs.floor.floor_unit.Goals as goal
use Rattle.std.proofs.Common.{◌*◌, ◌/◌}
use Rattle.exact_time.specs.{Time.difference, Floor.IsFloorIn, Tick.time_of}
use Rattle.exact_time.proofs.{Times.IsTime-difference, Floors.{IsFloorIn-div, floor_of-difference}}

is_floor : (c : goal.After-from-3) →
    IsFloorIn c.args.unit (difference (time_of c.args.end) (time_of c.args.first))
    (c.elapsed.result * c.from-3.result / (c.from.result * c.from-2.result))
is_floor c =
    rw (c.from-3.ensures, c.from.ensures, c.from-2.ensures, c.elapsed.ensures.exact)
    (IsFloorIn-div _ _ _ (IsTime-difference (time_of c.args.end) (time_of c.args.first) c.args.end.positive c.args.first.positive))

pub returns-clause-floor : goal.returns-clause-floor
returns-clause-floor c = is_floor c

pub returns-clause-value : goal.returns-clause-value
returns-clause-value c = floor_of-difference (time_of c.args.end)
    (time_of c.args.first) c.args.end.positive c.args.first.positive c.requires.not_before (is_floor c)

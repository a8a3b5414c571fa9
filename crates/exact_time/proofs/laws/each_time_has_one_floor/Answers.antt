use Rattle.std.proofs.Common.{sym, subst}
use Rattle.exact_time.specs.Floor.{IsFloorIn}
use Rattle.exact_time.proofs.Floors.{IsFloorIn-unique, IsFloorIn-floor_in}
use Rattle.exact_time.proofs.laws.each_time_has_one_floor.Goals as goal

pub returns : goal.returns
returns c u x m positive sign = (
  λ is. IsFloorIn-unique is (IsFloorIn-floor_in u x positive sign),
  λ same. subst (IsFloorIn u x) (sym same) (IsFloorIn-floor_in u x positive sign),
)

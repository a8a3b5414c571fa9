use Rattle.exact_time.proofs.laws.same_times_print_alike.Goals as goal
use Rattle.std.proofs.Common.{ap}
use Rattle.exact_time.specs.Rounding.{differences}
use Rattle.exact_time.proofs.{TimeOrder.IsAtMost_refl, Printed.floors-same}

pub returns : goal.returns
returns c u s t xs ys is_s is_t rising_x rising_y start same =
    ap (differences 0) (floors-same u s t s t xs ys is_s is_t is_s is_t (IsAtMost_refl s) (IsAtMost_refl t) rising_x rising_y start same)

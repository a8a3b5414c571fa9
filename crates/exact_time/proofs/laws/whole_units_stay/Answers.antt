use Rattle.exact_time.proofs.laws.whole_units_stay.Goals as goal
use Rattle.std.proofs.Common.{sym, ◌∙◌, ap}
use Rattle.exact_time.specs.Rounding.{differences}
use Rattle.exact_time.proofs.{TimeOrder.IsAtMost_refl, Floors.floor_in-difference_self, Printed.{printed-whole, floors}}

pub returns : goal.returns
returns c u s counts ends some is_s whole =
    ap (λ n. differences n (floors u s ends)) (sym (floor_in-difference_self u s))
    ∙ printed-whole u s s counts ends some is_s is_s (IsAtMost_refl s) whole

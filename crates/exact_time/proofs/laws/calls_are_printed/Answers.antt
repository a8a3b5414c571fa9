use Rattle.exact_time.proofs.laws.calls_are_printed.Goals as goal
use Rattle.std.proofs.Common.{arith, ◌∙◌, ap}
use Rattle.exact_time.specs.Rounding.{differences, rounding_from}
use Rattle.exact_time.proofs.{Floors.floor_in-difference_self, Printed.{calls_print, calls_sum, calls_rise, floors}}

pub returns-clause-numbers : goal.returns-clause-numbers
returns-clause-numbers c first unit ends numbers last calls =
    calls_print (rounding_from first unit) ends numbers last calls
    ∙ ap (λ n. differences n (floors unit first ends)) (floor_in-difference_self unit first)

pub returns-clause-ends : goal.returns-clause-ends
returns-clause-ends c first unit ends numbers last calls = calls_rise (rounding_from first unit) ends numbers last calls

pub returns-clause-sums : goal.returns-clause-sums
returns-clause-sums c first unit ends numbers last calls = omega (
  arith,
  calls_sum (rounding_from first unit) ends numbers last calls,
  floor_in-difference_self unit first,
)

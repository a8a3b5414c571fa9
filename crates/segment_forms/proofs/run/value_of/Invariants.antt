use Rattle.segment_forms.proofs.run.value_of.Given as goal
use Rattle.std.proofs.Common.{◌≡◌, ◌<◌, ◌^◌, drop}
use Rattle.std.specs.{Str.all_ascii_digits, Str.Parse.{digits_value, digits_value_after}}

-- the value so far goes on to the value of all digits
abbrev pub invariant-loop-digit : goal.invariant-loop-digit
invariant-loop-digit l = (l.value < 2 ^ 32)
    × (digits_value_after 10 l.value (drop l.digit-index l.digits) ≡ digits_value 10 l.digits)
    × (all_ascii_digits (drop l.digit-index l.digits) ≡ all_ascii_digits l.digits)

use Rattle.template_ids.proofs.identifier.width_in.Given as goal
use Rattle.std.proofs.Common.{◌≡◌, ◌<◌, ◌≤◌, ◌^◌, length, drop}
use Rattle.std.specs.{Str.all_ascii_digits, Str.Parse.{digits_value, digits_value_after}}

-- the width so far goes on to the value of all digits
abbrev pub invariant-loop-digit : goal.invariant-loop-digit
invariant-loop-digit l = (l.digit-index ≤ length l.digits) × (length l.digits ≤ 3) × (l.width < 10 ^ l.digit-index)
    × (digits_value_after 10 l.width (drop l.digit-index l.digits) ≡ digits_value 10 l.digits)
    × (all_ascii_digits (drop l.digit-index l.digits) ≡ all_ascii_digits l.digits)

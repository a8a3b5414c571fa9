use Rattle.std.proofs.Common.{◌≡◌, ◌^◌, ◌<◌, take}
use Rattle.iso_time.specs.Digits.{number_of}
use Rattle.iso_time.proofs.digits.number.Given as goal

abbrev pub invariant-loop-digit : goal.invariant-loop-digit
invariant-loop-digit l =
    (l.number ≡ number_of (take l.digit-index l.digits)) × (l.number < 10 ^ l.digit-index)

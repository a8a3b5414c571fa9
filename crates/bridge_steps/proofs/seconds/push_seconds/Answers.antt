use Rattle.std.proofs.Common.{◌≡◌, ◌-◌, ◌∙◌, ◌/◌, ◌++◌, ap, take, drop, arith}
use Rattle.std.specs.String.{string_bytes}
use Rattle.iso_time.specs.Digits.{padded_digits}
use Rattle.hls_writer.proofs.Decimals.{last_digits}
use Rattle.bridge_steps.proofs.Files.{on_ok_by}
use Rattle.bridge_steps.proofs.Lengths.{seconds_pushed}
use Rattle.bridge_steps.proofs.seconds.push_seconds.Goals as goal

pub returns : goal.returns
returns c =
    let before = 9 - c.from-2.result in let units = c.args.units in
    let shown : take (9 - before) (drop before c.nine_decimals-decimals.result) ≡ padded_digits c.args.digits units =
    rw c.nine_decimals-decimals.ensures.digits (last_digits c.args.digits before units (omega arith)) in
    on_ok_by c.push_digits.result
    (λ is. seconds_pushed (string_bytes c.args.text.now) (string_bytes c.write.new.self) _ (units / c.from.result) c.args.digits units
    c.in_ok-write.ensures.bytes
    (is ∙ ap (λ digits. string_bytes c.write.new.self ++ digits) shown) (ap (λ unit. units / unit) (c.from.ensures ∙ c.unit.ensures.value)))
    c.push_digits.ensures

-- A duration that isn't above the target duration, to the nearest second, isn't too long for it.
use Rattle.std.proofs.Common.{◌≡◌, ℕ, ◌+◌, ◌-◌, ◌*◌, ◌/◌, ◌%◌, ◌^◌, ◌<◌, ◌≤◌, false, Some, sym, ◌∙◌, ap, arith, inl, inr, nat_le}
use Rattle.std.proofs.{lemmas.Bool.cases_Bool, lemmas.Bool.Decides.nat_tests, lemmas.Nat.pow-add}
use Rattle.std.proofs.Math.Nat.{div-add-mod, mod-lt, mul-le-mul_left, mul-le-mul_right, one-le-pow}
use Rattle.hls_media.specs.Media.{is_long}
use Rattle.hls_writer.specs.Finished.{rounded}
use Rattle.laws_of_playlists.specs.ReadMedia.{nanos_of}

half_more : (unit units target : ℕ) → 1 ≤ unit → rounded unit units ≤ target → 2 * units ≤ (2 * target + 1) * unit
half_more unit units target some le =
    let whole = div-add-mod units unit in
    let part : units % unit < unit = mod-lt units some in
    elim (cases_Bool (nat_le unit (2 * (units % unit)))) [
      | inl up ↦
          let more : units / unit + 1 ≤ target = rw up at le in
          let wide : unit * (units / unit + 1) ≤ unit * target = mul-le-mul_left unit more in
          grind (arith, wide, whole, part)
      | inr down ↦
          let most : units / unit ≤ target = rw down at le in
          let wide : unit * (units / unit) ≤ unit * target = mul-le-mul_left unit most in
          grind (arith, nat_tests, wide, whole, part, down)
    ]

pub not_long : (digits units target : ℕ) → digits ≤ 9 → rounded (10 ^ digits) units ≤ target
    → is_long target (Some (nanos_of digits units)) ≡ false
not_long digits units target few le =
    let nine : digits + (9 - digits) ≡ 9 = omega arith in
    let scale : 10 ^ digits * 10 ^ (9 - digits) ≡ 10 ^ 9 = sym (pow-add 10 digits (9 - digits)) ∙ ap (λ (n : ℕ). 10 ^ n) nine in
    let own = half_more (10 ^ digits) units target (one-le-pow digits 10 (omega arith)) le in
    let wide = mul-le-mul_right (10 ^ (9 - digits)) own in
    grind (arith, nat_tests, scale, wide)

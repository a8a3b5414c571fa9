use Rattle.iso_time.proofs.instant.Fields.civil_nanos.Goals as goal
use Rattle.std.proofs.{Common.{◌∙◌, FitsSigned, refl, ap, arith}, lemmas.Int.{to_z_pos, to_z-of_z}}
use Rattle.std.specs.Int.{w8, w16, w32, w128}
use Rattle.jiff_core.specs.DateTime.{civil_nanos as jiff_nanos}
use Rattle.jiff_core.proofs.SignedLemmas.{signed_arith}
use Rattle.iso_time.proofs.CivilLemmas.{civil_nanos-is}

pub returns-in-Ok-clause-value : goal.returns-in-Ok-clause-value
returns-in-Ok-clause-value c =
    let f = c.args.self.now in
    let year = to_z_pos w16 f.year (omega (arith, c.requires.year)) in
    let month = to_z_pos w8 f.month (omega (arith, c.requires.month)) in
    let day = to_z_pos w8 f.day (omega (arith, c.requires.day)) in
    let hour = to_z_pos w8 f.hour (omega (arith, c.requires.hour)) in
    let minute = to_z_pos w8 f.minute (omega (arith, c.requires.minute)) in
    let second = to_z_pos w8 f.second (omega (arith, c.requires.second)) in
    let nanos = to_z_pos w32 f.nanos (omega (arith, c.requires.nanos)) in
    let exists = simp (year, month, day, hour, minute, second, nanos) at (c.in-Ok.ensures.succeeds.0 refl) in
    let v = simp (year, month, day, hour, minute, second, nanos) at c.in-Ok.ensures.value in
    let fits : FitsSigned w128 c.to_nanosecond.result = omega (arith, signed_arith, c.to_nanosecond.ensures.bound) in (
      exists,
      to_z-of_z w128 _ fits ∙ c.to_nanosecond.ensures.value ∙ ap jiff_nanos c.to_plain.ensures
          ∙ civil_nanos-is f c.in-Ok.local v.0 v.1,
    )

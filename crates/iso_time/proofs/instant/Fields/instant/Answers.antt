use Rattle.std.proofs.Common.{◌≡◌, ◌∙◌, ◌-ℤ◌, ◌*ℤ◌, pos, refl, ap}
use Rattle.iso_time.specs.Instant.{instant_or_fault, instant_nanos}
use Rattle.iso_time.proofs.CivilLemmas.{is_civil-true, is_offset-true, local-ahead}
use Rattle.iso_time.proofs.instant.Fields.instant.Goals as goal

pub returns : goal.returns
returns c =
    let f = c.args.self.now in
    let n = c.in-Some.ensures in
    let s = c.in-Some-seconds.ensures in
    let civil = is_civil-true f n.value.0 in
    let offset = is_offset-true f.offset s.value.0 in
    let exact : c.in-Some.local -ℤ c.in-Some-seconds.ahead *ℤ pos 1_000_000_000 ≡ instant_nanos f = rw (n.value.1, s.value.1) refl in
    rw (civil, offset)
    (c.checked_instant.ensures ∙ ap instant_or_fault (local-ahead c.in-Some.local c.in-Some-seconds.ahead n.bound s.bound ∙ exact))

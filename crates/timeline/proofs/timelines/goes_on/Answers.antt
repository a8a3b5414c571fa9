use Rattle.timeline.proofs.timelines.goes_on.Goals as goal
use Rattle.std.proofs.Common.{◌≡◌, suc, ◌-◌, ap, ◌∙◌, sym, refl, List, ◌∷◌, length, ℤ, pos, negsuc, rules, arith, []}
use Rattle.std.proofs.{lemmas.Int.to_z-of_z, lemmas.Bool.le-ltb}
use Rattle.std.specs.Prelude.{slice_get, Some, int_lt}
use Rattle.timeline.specs.Faults.{ends_open, is_negative}
use Rattle.mpd_entries.specs.declared.entry.SEntry.{SEntry}
use mir.Val.{SFits}
use mir.Syntax.{w64}

negative : (z : ℤ) → int_lt z (pos 0) ≡ is_negative z
negative (pos n) = le-ltb n 0 (omega arith)
negative (negsuc n) = refl

last_is : (entries : List SEntry) (s : SEntry) → Some s ≡ slice_get entries (length entries - 1) → ends_open entries ≡ is_negative s.r
last_is [] s at = cc
last_is (x ∷ []) s at = let same : s ≡ x = cc in ap (λ (y : SEntry). is_negative y.r) (sym same)
last_is (x ∷ next ∷ later) s at =
    let place : length (x ∷ next ∷ later) - 1 ≡ suc (length (next ∷ later) - 1) = omega arith in
    last_is (next ∷ later) s (at ∙ ap (slice_get (x ∷ next ∷ later)) place)

pub returns-in-Some : goal.returns-in-Some
returns-in-Some c =
    let fits : SFits w64 c.in-Some.entry.now.r = search rules in
    rw (to_z-of_z w64 c.in-Some.entry.now.r fits) (negative c.in-Some.entry.now.r
    ∙ sym (last_is c.args.entries.now c.in-Some.entry.now c.in-Some.ensures.value))

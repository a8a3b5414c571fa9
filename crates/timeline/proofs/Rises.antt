-- Each segment ends after the one before it, where none is apart from it.
use Rattle.std.proofs.Common.{◌≡◌, ℕ, zero, suc, ◌+◌, ◌*◌, ◌<◌, ◌≤◌, Bool, false, cond, ℤ, pos, negsuc, ◌+ℤ◌, ◌-ℤ◌, ◌*ℤ◌, ◌≤ℤ◌, ◌<ℤ◌, List}
use Rattle.std.proofs.{Common.{◌∷◌, map, Option, Some, None, refl, ◌∙◌, ap, inl, inr, arith, []}, lemmas.Int.ints}
use Rattle.std.proofs.{lemmas.Bool.Decides.nat_tests, lemmas.List.append-nil, Math.Nat.{mul-le-mul_left, one-le-mul}}
use Rattle.std.specs.Prelude.{unsigned_abs}
use borrow.Author.Differences.{up, down}
use Rattle.exact_time.specs.Time.{Time, IsTime, IsBefore, IsAtMost, cross, difference, AreRising}
use Rattle.exact_time.proofs.TimeOrder.{share, share_le_out, before-false, not_before-from, before_or_at_most, before_excludes}
use Rattle.timeline.specs.{declared.fault.TimeFault.TimeFault, declared.fault.TimeFault.TheVariants.{Step, Range}, Ratios.earlier}
use Rattle.timeline.specs.Expansions.{Extent, Member, Closed, Short, Endless, extents, ended_by, lasting, repeat_of, repeated}
use Rattle.timeline.specs.{Faults.{is_apart, segment_fault}, Steady.{Lasts, LastsTicks, AreLasting}, Laws.EndsRise}
use Rattle.timeline.proofs.{Judged.{head_passes, passes}, Ratios.int_le-mul}

pub Lasts-from_ticks : (x : Extent) → LastsTicks x → Lasts x
Lasts-from_ticks x is = record {
  start_is = omega (arith, is.one_scale, is.end_is);
  end_is = is.end_is;
  ends =
      let more : up x.start.ticks + down x.end.ticks + 1 ≤ up x.end.ticks + down x.start.ticks = omega (arith, ints, is.rises) in
      rw is.one_scale (omega (arith, ints, mul-le-mul_left x.end.scale more, is.end_is));
}

-- ---- a segment that isn't apart from a time ends after it

twice : (length gap : ℤ) (m n p : ℕ) → 0 < m → 0 < p → pos 0 <ℤ length → ((gap *ℤ pos n) +ℤ (length *ℤ pos p)) ≤ℤ pos 0 →
    (length *ℤ pos (m * p)) <ℤ (pos (2 * unsigned_abs gap) *ℤ pos (n * m))
twice (negsuc l) gap m n p some_m some_p some le = absurd (omega (arith, ints))
twice (pos l) (pos g) m n p some_m some_p some le = let some_l : 0 < l = omega (arith, ints) in
    absurd (omega (arith, ints, one-le-mul some_l some_p))
twice (pos l) (negsuc g) m n p some_m some_p some le =
    let long : l * p ≤ suc g * n = omega (arith, ints) in
    let some_l : 0 < l = omega (arith, ints) in
    omega (arith, ints, mul-le-mul_left m long, one-le-mul some_m (one-le-mul some_l some_p))

-- twice the gap to a time that isn't before its end is longer than a segment
farther : (former : Time) (x : Extent) → Lasts x → IsTime former → IsAtMost x.end former → IsBefore (lasting x) (record {
  ticks = pos (2 * unsigned_abs (difference x.start former).ticks);
  scale = (difference x.start former).scale;
})
farther former x is is_former late =
    let length = cross x.end x.start -ℤ cross x.start x.end in
    let gap = cross x.start former -ℤ cross former x.start in
    twice length gap x.start.scale x.end.scale former.scale is.start_is is_former (omega (arith, ints, is.ends))
    (let gap_is : up gap + share former x.start ≡ down gap + share x.start former = omega (arith, ints) in
    let length_is : up length + share x.start x.end ≡ down length + share x.end x.start = omega (arith, ints) in
    omega (
      arith,
      ints,
      ap (λ (k : ℕ). k * x.end.scale) gap_is,
      ap (λ (k : ℕ). k * former.scale) length_is,
      mul-le-mul_left x.start.scale (share_le_out x.end former late),
    ))

pub ends_after : (former : Time) (x : Extent) → Lasts x → IsTime former → is_apart (Some former) x ≡ false → IsBefore former x.end
ends_after former x is is_former near = elim (before_or_at_most former x.end) [
  | inl earlier ↦ earlier
  | inr late ↦
      let twice_gap : Time = record {
        ticks = pos (2 * unsigned_abs (difference x.start former).ticks);
        scale = (difference x.start former).scale;
      } in
      absurd (before_excludes (lasting x) twice_gap (farther former x is is_former late) (before-false (lasting x) twice_gap near))
]

-- a segment isn't apart from its own start
pub touching_own : (x : Extent) → Lasts x → is_apart (Some x.start) x ≡ false
touching_own x is =
    let none : Time = record { ticks = pos 0; scale = x.start.scale * x.start.scale } in
    let zero : (difference x.start x.start).ticks ≡ pos 0 = omega (arith, ints) in
    let lasts : pos 0 ≤ℤ (lasting x).ticks = omega (arith, ints, is.ends) in
    rw zero (not_before-from (lasting x) none
    (omega (arith, ints, int_le-mul (pos 0) (lasting x).ticks (x.start.scale * x.start.scale) lasts)))

-- ---- rising ends

-- the ends rise, and the first one is after a time
abbrev RisesAfter : Option Time → List Extent → Type 0
RisesAfter None xs = AreRising (map (λ x. x.end) xs)
RisesAfter (Some former) xs = AreRising (former ∷ map (λ x. x.end) xs)

-- ---- segments of one duration

pub LastsTicks-repeat : (x : Extent) → LastsTicks x → LastsTicks (repeat_of x)
LastsTicks-repeat x is = record { one_scale = refl; end_is = is.end_is; rises = omega (arith, ints, is.rises) }

next_after : (x : Extent) → LastsTicks x → IsBefore x.end (repeat_of x).end
next_after x is = (Lasts-from_ticks (repeat_of x) (LastsTicks-repeat x is)).ends

repeated_after : (count : ℕ) (x : Extent) → LastsTicks x → (former : Time) → IsBefore former x.end
    → RisesAfter (Some former) (repeated count x)
unfolding repeated
repeated_after zero x is former first = tt
repeated_after (suc count) x is former first = (first, repeated_after count (repeat_of x) (LastsTicks-repeat x is) x.end (next_after x is))

pub repeated_rises : (count : ℕ) (x : Extent) → LastsTicks x → RisesAfter None (repeated count x)
unfolding repeated
repeated_rises zero x is = tt
repeated_rises (suc count) x is = repeated_after count (repeat_of x) (LastsTicks-repeat x is) x.end (next_after x is)

-- ---- members

abbrev pub IsSomeTime : Option Time → Type 0
IsSomeTime None = Unit {0}
IsSomeTime (Some former) = IsTime former

pub short_none : (holds : Bool) → cond holds (Some Range) (Some Step) ≡ None → ⊥
short_none holds h = grind (arith, nat_tests)

pub no_step : (holds : Bool) (rest : Option TimeFault) → cond holds (Some Step) rest ≡ None → (holds ≡ false) × (rest ≡ None)
no_step holds rest h = grind (arith, nat_tests)

pub members_rise : (members : List Member) (former : Option Time) → AreLasting members → IsSomeTime former
    → segment_fault (λ _. false) former members ≡ None →
    (instant : Time) → RisesAfter former (extents instant members)
members_rise [] None last is none instant = tt
members_rise [] (Some former) last is none instant = tt
members_rise (Closed x ∷ later) None (is, last) _ none instant = members_rise later (Some x.end) last is.end_is none instant
members_rise (Closed x ∷ later) (Some former) (is, last) is_former none instant =
    let split = no_step (is_apart (Some former) x) (segment_fault (λ _. false) (Some x.end) later) none in
    (ends_after former x is is_former split.0, members_rise later (Some x.end) last is.end_is split.1 instant)
members_rise (Short x ∷ later) former last is_former none instant = cc
members_rise (Endless x ∷ later) None (is, last) _ none instant =
    rw (last, append-nil) (repeated_rises (ended_by instant x) x is)
members_rise (Endless x ∷ later) (Some former) (is, last) is_former none instant =
    let split = no_step (is_apart (Some former) x) (segment_fault (λ _. false) (Some former) later) none in
    let first = ends_after former x (Lasts-from_ticks x is) is_former split.0 in
    rw (last, append-nil) (repeated_after (ended_by instant x) x is former first)

pub ends_rise : (members : List Member) → AreLasting members → segment_fault (λ _. false) None members ≡ None → EndsRise members
ends_rise members last none instant = members_rise members None last tt none instant

-- what has no fault by one test has none by a weaker one
pub steady_from : (breaks long : Extent → Bool) → ((x : Extent) → breaks x ≡ false → long x ≡ false)
    → (former : Option Time) (members : List Member) →
    segment_fault breaks former members ≡ None → segment_fault long former members ≡ None
steady_from breaks long weaker former [] none = refl
steady_from breaks long weaker former (Closed x ∷ later) none =
    let kept = passes _ _ _ none in
    head_passes long former x later (weaker x kept.0) kept.1 ∙ steady_from breaks long weaker (Some x.end) later kept.2
steady_from breaks long weaker former (Short x ∷ later) none = absurd (short_none (breaks x) none)
steady_from breaks long weaker former (Endless x ∷ later) none =
    let near = no_step (is_apart former x) (segment_fault breaks former later) none in
    rw near.0 (steady_from breaks long weaker former later near.1)

-- what has no fault has no step
pub no_step_from : (breaks : Extent → Bool) (former : Option Time) (members : List Member) → segment_fault breaks former members ≡ None
    → segment_fault (λ _. false) former members ≡ None
no_step_from breaks former members none = steady_from breaks (λ _. false) (λ x kept. refl) former members none

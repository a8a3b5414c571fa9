-- The ends of listed segments don't fall, and lie near one another.
use Rattle.std.proofs.Common.{◌≡◌, ℕ, zero, suc, ◌+◌, ◌*◌, false, List, ◌∷◌, map, take, drop, ℤ, pos, ◌≤ℤ◌, append-nil, [], arith, Bool}
use Rattle.std.proofs.{Common.{Option, Some, None}, lemmas.Bool.or_parts, lemmas.Int.ints, lemmas.List.Elements.{All-drop, All-filter}}
use Rattle.std.proofs.lemmas.List.Elements.{All-from_recursion}
use Rattle.std.specs.{Prelude.{Option, Some, None, unsigned_abs, All}, List.{list_any, AllByRecursion}}
use Rattle.exact_time.specs.{Time.{Time, IsTime, IsAtMost, difference, seconds}, Rounding.{IsRising, AreNear}}
use Rattle.exact_time.proofs.{TimeOrder.{IsAtMost-trans, IsAtMost-from_before, before-false}, Times.{IsTime-difference, le_units-add}}
use Rattle.timeline.specs.{declared.window.Window.Window, Expansions.{SegmentTimeline, Extent, Member, Closed, Short, Endless, ended_by}}
use Rattle.timeline.specs.{Expansions.{extents, lasting, numbered, repeat_of, repeated}, Faults.{is_apart, segment_fault}}
use Rattle.timeline.specs.{Limits.{breaks_limits, too_long}, Listed.{instant_of, reaches_fault, expansion, is_listed, listed_from}}
use Rattle.timeline.specs.Steady.{Lasts, LastsTicks, AreLasting, ArePaced, AreKept, EndInTime, IsWithinLimits}
use Rattle.timeline.proofs.{Judged.{not_long, passes, keeps}, Rises.{IsSomeTime, Lasts-from_ticks, LastsTicks-repeat, ends_after, no_step}}
use Rattle.timeline.proofs.Rises.{short_none, touching_own, steady_from}

-- ---- what the constructors judge

-- what keeps the limits doesn't end late
not_late : (ticks origin : ℕ) (x : Extent) → breaks_limits ticks origin x ≡ false → IsAtMost x.end (seconds 100000000000)
not_late ticks origin x kept = before-false (seconds 100000000000) x.end (keeps ticks origin x kept).2

module _ (scale : Extent → ℕ) (origin : ℕ) where
  abbrev breaks : Extent → Bool
  breaks x = breaks_limits (scale x) origin x

  in_time : (former : Option Time) (members : List Member) → segment_fault breaks former members ≡ None → EndInTime members
  in_time former [] none = tt
  in_time former (Closed x ∷ later) none =
      let kept = passes _ _ _ none in
      (not_late (scale x) origin x kept.0, in_time (Some x.end) later kept.2)
  in_time former (Short x ∷ later) none = absurd (short_none (breaks x) none)
  in_time former (Endless x ∷ later) none = in_time former later (no_step (is_apart former x) (segment_fault breaks former later) none).1

  pub kept_of : (members : List Member) → AreLasting members → segment_fault breaks None members ≡ None → AreKept members
  kept_of members last none = record {
    lasting = last;
    steady = steady_from breaks too_long (λ x kept. not_long (scale x) origin x kept) None members none;
    in_time = in_time None members none;
  }

-- ---- the segments of a timeline

-- whatever its number
abbrev KeepsLimits : Extent → Type 0
KeepsLimits x = (number : ℕ) → IsWithinLimits (record { start = x.start; end = x.end; number = number })

one_within : (x : Extent) → Lasts x → too_long x ≡ false → IsAtMost x.end (seconds 100000000000) → KeepsLimits x
one_within x is short near = λ number.
    let lasts = before-false (seconds 1000000) (lasting x) short in
    record { start_is = is.start_is; end_is = is.end_is; begins = is.ends; lasts = lasts; near = near }

repeated_within : (ticks origin count : ℕ) (x : Extent) → LastsTicks x →
    list_any (breaks_limits ticks origin) (repeated count x) ≡ false → AllByRecursion KeepsLimits (repeated count x)
unfolding repeated
repeated_within ticks origin zero x is kept = tt
repeated_within ticks origin (suc count) x is kept =
    let split = or_parts (breaks_limits ticks origin x) (list_any (breaks_limits ticks origin) (repeated count (repeat_of x))) kept in (
      one_within x (Lasts-from_ticks x is) (not_long ticks origin x split.0) (not_late ticks origin x split.0),
      repeated_within ticks origin count (repeat_of x) (LastsTicks-repeat x is) split.1,
    )

numbered_within : (number : ℕ) (xs : List Extent) → AllByRecursion KeepsLimits xs → AllByRecursion IsWithinLimits (numbered number xs)
numbered_within number [] keep = tt
numbered_within number (x ∷ xs) (here, keep) = (here number, numbered_within (number + 1) xs keep)

module _ (timeline : SegmentTimeline) (window : Window) where
  members_within : (former : Option Time) (members : List Member) → AreLasting members → EndInTime members →
      segment_fault too_long former members ≡ None →
      list_any (reaches_fault timeline window) members ≡ false → AllByRecursion KeepsLimits (extents (instant_of window) members)
  members_within former [] last ends none reached = tt
  members_within former (Closed x ∷ later) (is, last) (near, ends) none reached =
      let kept = passes _ _ _ none in
      (one_within x is kept.0 near, members_within (Some x.end) later last ends kept.2 reached)
  members_within former (Short x ∷ later) last ends none reached = absurd (short_none (too_long x) none)
  members_within former (Endless x ∷ later) (is, last) ends none reached =
      let reach = repeated (ended_by (instant_of window) x) x in
      let split = or_parts (list_any (breaks_limits timeline.ticks timeline.origin) reach)
      (list_any (reaches_fault timeline window) later) reached in
      rw (last, append-nil) (repeated_within timeline.ticks timeline.origin (ended_by (instant_of window) x) x is split.0)

  pub listed_within : (place : ℕ) → AreLasting timeline.members → EndInTime timeline.members →
      segment_fault too_long None timeline.members ≡ None →
      list_any (reaches_fault timeline window) timeline.members ≡ false → All IsWithinLimits (listed_from place timeline window)
  listed_within place last ends steady reached =
      let all = numbered_within timeline.first_number (extents (instant_of window) timeline.members)
      (members_within None timeline.members last ends steady reached) in
      All-filter (is_listed window) IsWithinLimits (drop place (expansion timeline window))
      (All-drop IsWithinLimits place (expansion timeline window) (All-from_recursion IsWithinLimits (expansion timeline window) all))

-- ---- one segment behind a time

abbrev IsNearBy : Time → Time → Type 0
IsNearBy former end = IsAtMost former end × IsAtMost (difference end former) (seconds 2000000)

abs-le : (z : ℤ) → z ≤ℤ pos (2 * unsigned_abs z)
abs-le z = grind (arith, ints)

module _ (x : Extent) (is : Lasts x) (short : too_long x ≡ false) where
  lasts : IsAtMost (lasting x) (seconds 1000000)
  lasts = before-false (seconds 1000000) (lasting x) short

  own_nearby : IsNearBy x.start x.end
  own_nearby = (
    IsAtMost-from_before x.start x.end is.ends,
    IsAtMost-trans (lasting x) (seconds 1000000) (seconds 2000000) (omega arith) lasts (omega (arith, ints)),
  )

  nearby : (former : Time) → IsTime former → is_apart (Some former) x ≡ false → IsNearBy former x.end
  nearby former is_former near =
      let gap : Time = record {
        ticks = pos (2 * unsigned_abs (difference x.start former).ticks);
        scale = (difference x.start former).scale;
      } in
      let gap_short = IsAtMost-trans gap (lasting x) (seconds 1000000)
      (IsTime-difference x.end x.start is.end_is is.start_is) (before-false (lasting x) gap near) lasts in
      let late : IsAtMost (difference x.start former) (seconds 1000000) =
      omega (arith, ints, abs-le (difference x.start former).ticks, gap_short) in (
        IsAtMost-from_before former x.end (ends_after former x is is_former near),
        le_units-add 1 1000000 1000000 x.end x.start former is.start_is lasts late,
      )

-- ---- segments in order

abbrev PacedFrom : Option Time → List Extent → Type 0
PacedFrom former [] = Unit {0}
PacedFrom None (x ∷ xs) = IsTime x.end × IsNearBy x.start x.end × PacedFrom (Some x.end) xs
PacedFrom (Some former) (x ∷ xs) = IsNearBy former x.end × IsTime x.end × IsNearBy x.start x.end × PacedFrom (Some x.end) xs

anyhow : (former : Time) (xs : List Extent) → PacedFrom (Some former) xs → PacedFrom None xs
anyhow former [] paced = tt
anyhow former (x ∷ xs) paced = (paced.1, paced.2, paced.3)

paced_drop : (k : ℕ) (xs : List Extent) → PacedFrom None xs → PacedFrom None (drop k xs)
paced_drop zero xs paced = paced
paced_drop (suc k) [] paced = tt
paced_drop (suc k) (x ∷ xs) paced = paced_drop k xs (anyhow x.end xs paced.2)

paced_take : (k : ℕ) (former : Option Time) (xs : List Extent) → PacedFrom former xs → PacedFrom former (take k xs)
paced_take zero former xs paced = tt
paced_take (suc k) former [] paced = tt
paced_take (suc k) None (x ∷ xs) paced = (paced.0, paced.1, paced_take k (Some x.end) xs paced.2)
paced_take (suc k) (Some former) (x ∷ xs) paced = (paced.0, paced.1, paced.2, paced_take k (Some x.end) xs paced.3)

abbrev ends : ℕ → List Extent → List Time
ends number xs = map (λ y. y.end) (numbered number xs)

paced_rising : (former : Time) (number : ℕ) (xs : List Extent) → PacedFrom (Some former) xs
    → IsRising former (ends number xs) × AreNear former (ends number xs)
paced_rising former number [] paced = (tt, tt)
paced_rising former number (x ∷ xs) paced =
    let rest = paced_rising x.end (number + 1) xs paced.3 in
    ((paced.1, paced.0.0, rest.0), (paced.0.1, rest.1))

paced_numbered : (number : ℕ) (xs : List Extent) → PacedFrom None xs → ArePaced (numbered number xs)
paced_numbered number [] paced = tt
paced_numbered number (x ∷ xs) paced =
    let rest = paced_rising x.end (number + 1) xs paced.2 in
    ((paced.0, paced.1.0, rest.0), (paced.1.1, rest.1))

-- ---- the segments of a timeline

head_paced : (former : Option Time) (x : Extent) (xs : List Extent) → Lasts x → too_long x ≡ false → IsSomeTime former
    → is_apart former x ≡ false → PacedFrom (Some x.end) xs → PacedFrom former (x ∷ xs)
head_paced None x xs is short is_former near rest = (is.end_is, own_nearby x is short, rest)
head_paced (Some former) x xs is short is_former near rest =
    (nearby x is short former is_former near, is.end_is, own_nearby x is short, rest)

module _ (ticks origin : ℕ) where
  repeated_paced : (count : ℕ) (x : Extent) (former : Option Time) → LastsTicks x → IsSomeTime former → is_apart former x ≡ false
      → list_any (breaks_limits ticks origin) (repeated count x) ≡ false → PacedFrom former (repeated count x)
  unfolding repeated
  repeated_paced zero x former is is_former near kept = tt
  repeated_paced (suc count) x former is is_former near kept =
      let split = or_parts (breaks_limits ticks origin x) (list_any (breaks_limits ticks origin) (repeated count (repeat_of x))) kept in
      let next : LastsTicks (repeat_of x) = LastsTicks-repeat x is in
      head_paced former x (repeated count (repeat_of x)) (Lasts-from_ticks x is) (not_long ticks origin x split.0) is_former near
      (repeated_paced count (repeat_of x) (Some x.end) next is.end_is
      (touching_own (repeat_of x) (Lasts-from_ticks (repeat_of x) next)) split.1)

module _ (timeline : SegmentTimeline) (window : Window) where
  members_paced : (members : List Member) (former : Option Time) → AreLasting members → IsSomeTime former
      → segment_fault too_long former members ≡ None → list_any (reaches_fault timeline window) members ≡ false →
      PacedFrom former (extents (instant_of window) members)
  members_paced [] former last is_former none reached = tt
  members_paced (Closed x ∷ later) former (is, last) is_former none reached =
      let kept = passes _ _ _ none in
      head_paced former x (extents (instant_of window) later) is kept.0 is_former kept.1
      (members_paced later (Some x.end) last is.end_is kept.2 reached)
  members_paced (Short x ∷ later) former last is_former none reached = absurd (short_none (too_long x) none)
  members_paced (Endless x ∷ later) former (is, last) is_former none reached =
      let near = no_step (is_apart former x) (segment_fault too_long former later) none in
      let split = or_parts (list_any (breaks_limits timeline.ticks timeline.origin) (repeated (ended_by (instant_of window) x) x))
      (list_any (reaches_fault timeline window) later) reached in
      let all = repeated_paced timeline.ticks timeline.origin (ended_by (instant_of window) x) x former is is_former near.0 split.0 in
      rw (last, append-nil) all

  pub listed_paced : (all : List Extent) (number left begin : ℕ) → extents (instant_of window) timeline.members ≡ all
      → AreLasting timeline.members → segment_fault too_long None timeline.members ≡ None →
      list_any (reaches_fault timeline window) timeline.members ≡ false → ArePaced (numbered number (take left (drop begin all)))
  listed_paced all number left begin is last steady reached =
      let paced : PacedFrom None all = rw (← is) (members_paced timeline.members None last tt steady reached) in
      paced_numbered number (take left (drop begin all)) (paced_take left None (drop begin all) (paced_drop begin all paced))

-- The ends of each kind of expansion rise.
use Rattle.std.proofs.Common.{◌≡◌, ℕ, zero, suc, ◌+◌, ◌-◌, ◌*◌, ◌<◌, Bool, true, false, cond, ℤ, pos, List, ◌∷◌, ◌++◌, map, Option, Some}
use Rattle.std.proofs.{Common.{None, refl, ◌∙◌, sym, ap, inl, inr, arith, []}, lemmas.Int.ints, lemmas.Bool.or_parts}
use Rattle.std.proofs.{lemmas.Bool.Decides.nat_tests, Math.Nat.mul-lt-mul_of_pos_left}
use Rattle.std.specs.{Prelude.{◌==◌, ◌⊎◌, unwrap_or}, List.list_any}
use Rattle.exact_time.specs.Time.{Time, IsTime, IsBefore, in_units, before, at_most, nanoseconds}
use Rattle.exact_time.proofs.TimeOrder.{before_or_at_most, at_most-false}
use Rattle.timeline.specs.{declared.entry.Scale.Scale, declared.entry.End.End, declared.entry.End.TheVariants.{At, Unbounded}}
use Rattle.timeline.specs.{declared.span.Span.Span, Ratios.{earlier, steps_to_cover}}
use Rattle.timeline.specs.Expansions.{Extent, Member, Closed, Short, Endless, repeated, repeat_of}
use Rattle.timeline.specs.Timelines.{Reach, Counted, UpTo, Unending, Nowhere, extent_from, reach_of, reach_of_next, count_of, count_up_to}
use Rattle.timeline.specs.Timelines.{members_of, members_from, expansion_of_timeline}
use Rattle.timeline.specs.Durations.{extent_at, extents_by, cut_at, expansion_of_names, expansion_of_list, extent_of}
use Rattle.timeline.specs.{Faults.{lasts_no_time, extents_break, is_apart, is_too_many, members_by, segment_fault}, Limits.too_long}
use Rattle.timeline.specs.{Laws.{TimelinesRise, DurationsRise, ListsRise}, Steady.{Lasts, LastsTicks, AreLasting, IsSteady}}
use Rattle.mpd_entries.specs.declared.entry.SEntry.{SEntry}
use Rattle.timeline.proofs.Ratios.{steps_to_cover-is, ceiling-le}
use Rattle.timeline.proofs.{Rises.{Lasts-from_ticks, LastsTicks-repeat, ends_rise, steady_from, touching_own}, Judged.{head_passes, passes}}

-- ---- times given one by one

pub spans_last : (spans : List Span) → list_any (λ span. lasts_no_time (extent_of span)) spans ≡ false
    → AreLasting (expansion_of_list spans)
spans_last [] none = tt
spans_last (span ∷ spans) none =
    let split = or_parts (lasts_no_time (extent_of span)) (list_any (λ s. lasts_no_time (extent_of s)) spans) none in (
      record {
        start_is = span.start.positive;
        end_is = span.end.positive;
        ends = at_most-false (extent_of span).end (extent_of span).start split.0;
      },
      spans_last spans split.1,
    )

pub lists_rise : ListsRise
lists_rise spans lasting step = ends_rise (expansion_of_list spans) (spans_last spans lasting) step

-- ---- timelines

pub LastsTicks-extent : (scale : Scale) (start d : ℕ) → 0 < d → LastsTicks (extent_from scale start d)
LastsTicks-extent scale start d some = record { one_scale = refl; end_is = scale.positive; rises = omega (arith, ints) }

pub repeated_last : (count : ℕ) (x : Extent) (later : List Member) → LastsTicks x → AreLasting later
    → AreLasting (map Closed (repeated count x) ++ later)
unfolding repeated
repeated_last zero x later is last = last
repeated_last (suc count) x later is last = (Lasts-from_ticks x is, repeated_last count (repeat_of x) later (LastsTicks-repeat x is) last)

members_last : (reach : Reach) (x : Extent) (later : List Member) → LastsTicks x → (reach ≡ Unending → later ≡ []) → AreLasting later
    → AreLasting (members_of reach x ++ later)
members_last (Counted count) x later is none last = repeated_last count x later is last
members_last (UpTo bound) x later is none last =
    elim (at_most bound x.start) as (λ b. AreLasting (cond b (Short x ∷ []) (map Closed (repeated (count_up_to bound x) x)) ++ later))
    [ true ↦ last | false ↦ repeated_last (count_up_to bound x) x later is last ]
members_last Unending x later is none last = (is, none refl)
members_last Nowhere x later is none last = last

pub not_unending : (scale : Scale) (t : Option ℕ) → reach_of_next scale t ≡ Unending → ⊥
not_unending scale t is = grind arith

last_reach : (scale : Scale) (end : End) (r : ℤ) (later : List SEntry) → reach_of scale end r later ≡ Unending → later ≡ []
last_reach scale end r later is = grind (arith, not_unending)

pub entries_last : (scale : Scale) (end : End) (former : ℕ) (entries : List SEntry) → list_any (λ s. s.d == 0) entries ≡ false
    → AreLasting (members_from scale end former entries)
entries_last scale end former [] some = tt
entries_last scale end former (s ∷ later) some =
    let split = or_parts (s.d == 0) (list_any (λ e. e.d == 0) later) some in
    let start = unwrap_or s.t former in
    let x = extent_from scale start s.d in
    let reach = reach_of scale end s.r later in
    let next = start + count_of reach x * s.d in
    members_last reach x (members_from scale end next later) (LastsTicks-extent scale start s.d (grind (arith, nat_tests, split.0)))
    (λ is. ap (members_from scale end next) (last_reach scale end s.r later is)) (entries_last scale end next later split.1)

pub timelines_rise : TimelinesRise
timelines_rise scale end entries some step = ends_rise (expansion_of_timeline scale end entries)
    (entries_last scale end 0 entries some) step

-- ---- durations

-- each segment begins where the one before it ends
abbrev pub AreJoined : Time → List Extent → Type 0
AreJoined former [] = Unit {0}
AreJoined former (x ∷ xs) = (x.start ≡ former) × Lasts x × AreJoined x.end xs

-- segments in a row, or those of an open end
abbrev pub IsOneRow : List Member → Type 0
IsOneRow members = ((former : Time) × (xs : List Extent) × AreJoined former xs × (members ≡ map Closed xs))
    ⊎ ((x : Extent) × LastsTicks x × (members ≡ Endless x ∷ []))

joined_lasting : (former : Time) (xs : List Extent) → AreJoined former xs → AreLasting (map Closed xs)
joined_lasting former [] joined = tt
joined_lasting former (x ∷ xs) (at, is, joined) = (is, joined_lasting x.end xs joined)

joined_fault : (breaks : Extent → Bool) (former : Time) (xs : List Extent) → AreJoined former xs →
    extents_break breaks (map Closed xs) ≡ false → segment_fault breaks (Some former) (map Closed xs) ≡ None
joined_fault breaks former [] joined none = refl
joined_fault breaks former (x ∷ xs) (at, is, joined) none =
    let split = or_parts (breaks x) (extents_break breaks (map Closed xs)) none in
    head_passes breaks (Some former) x (map Closed xs) split.0 (ap (λ (f : Time). is_apart (Some f) x) (sym at) ∙ touching_own x is)
    ∙ joined_fault breaks x.end xs joined split.1

from_first : (breaks : Extent → Bool) (former : Time) (xs : List Extent) → segment_fault breaks (Some former) (map Closed xs) ≡ None →
    segment_fault breaks None (map Closed xs) ≡ None
from_first breaks former [] none = refl
from_first breaks former (x ∷ xs) none =
    let kept = passes _ _ _ none in
    head_passes breaks None x (map Closed xs) kept.0 refl ∙ kept.2

pub row_lasting : (members : List Member) → IsOneRow members → AreLasting members
row_lasting members is = elim is [
  | inl row ↦ rw row.3 (joined_lasting row.0 row.1 row.2)
  | inr alone ↦ rw alone.2 (alone.1, refl)
]

-- a row in which none breaks the limits has no fault
pub row_fault : (breaks : Extent → Bool) (members : List Member) → IsOneRow members → extents_break breaks members ≡ false →
    segment_fault breaks None members ≡ None
row_fault breaks members is none = elim is [
  | inl row ↦ rw row.3 (from_first breaks row.0 row.1 (joined_fault breaks row.0 row.1 row.2 (rw row.3 at none)))
  | inr alone ↦ rw alone.2 refl
]

pub row_steady : (breaks : Extent → Bool) → ((x : Extent) → breaks x ≡ false → too_long x ≡ false) → (members : List Member) →
    IsOneRow members → extents_break breaks members ≡ false → IsSteady members
row_steady breaks weaker members is none = steady_from breaks too_long weaker None members (row_fault breaks members is none)

never_breaks : (members : List Member) → extents_break (λ _. false) members ≡ false
never_breaks [] = refl
never_breaks (Closed x ∷ later) = never_breaks later
never_breaks (Short x ∷ later) = never_breaks later
never_breaks (Endless x ∷ later) = never_breaks later

module _ (ticks duration : ℕ) (positive : 0 < ticks) (some : 0 < duration) where
  more : (k : ℕ) → IsBefore (in_units ticks (k * duration)) (in_units ticks ((k + 1) * duration))
  more k = omega (arith, ints, mul-lt-mul_of_pos_left {m = k * duration} {n = (k + 1) * duration} (omega arith) positive)

  by_joined : (count k : ℕ) → AreJoined (in_units ticks (k * duration)) (extents_by ticks duration k count)
  unfolding extents_by
  by_joined zero k = tt
  by_joined (suc count) k = (refl, record { start_is = positive; end_is = positive; ends = more k }, by_joined count (k + 1))

  module _ (bound : Time) (is_bound : IsTime bound) where
    before_earlier : (former end : Time) → IsBefore former end → IsBefore former bound → IsBefore former (earlier end bound)
    before_earlier former end first second =
        elim (before bound end) as (λ b. IsBefore former (cond b bound end)) [ true ↦ second | false ↦ first ]

    IsTime-earlier : (end : Time) → IsTime end → IsTime (earlier end bound)
    IsTime-earlier end is_end = elim (before bound end) as (λ b. IsTime (cond b bound end)) [ true ↦ is_bound | false ↦ is_end ]

    cut_joined : (count k last : ℕ) → k + count ≡ last + 1 → IsBefore (in_units ticks (last * duration)) bound
        → AreJoined (in_units ticks (k * duration)) (cut_at bound (extents_by ticks duration k count))
    unfolding extents_by
    cut_joined zero k last is within = tt
    cut_joined (suc zero) k last is within =
        let same : k ≡ last = omega arith in (
          refl,
          record {
            start_is = positive;
            end_is = IsTime-earlier (in_units ticks ((k + 1) * duration)) positive;
            ends = before_earlier (in_units ticks (k * duration)) (in_units ticks ((k + 1) * duration)) (more k) (rw same within);
          },
          tt,
        )
    cut_joined (suc (suc count)) k last is within =
        (refl, record { start_is = positive; end_is = positive; ends = more k }, cut_joined (suc count) (k + 1) last (omega arith) within)

  pub last_covers : (length last : ℕ) → steps_to_cover (nanoseconds (pos length)) (in_units ticks duration) ≡ last + 1
      → IsBefore (in_units ticks (last * duration)) (nanoseconds (pos length))
  last_covers length last is = elim (before_or_at_most (in_units ticks (last * duration)) (nanoseconds (pos length))) [
    | inl early ↦ early
    | inr late ↦
        let is_ceiling = steps_to_cover-is (nanoseconds (pos length)) (in_units ticks duration) (length * ticks) (1000000000 * duration) 1
        (omega arith) (omega arith) (omega arith) (omega arith) in
        absurd (omega (arith, ints, ceiling-le (length * ticks) (1000000000 * duration) last (omega arith) (omega (arith, ints))))
  ]

  -- so many segments, of which the last one begins before the time that it is cut at
  names_row : (length count : ℕ) → (0 < count → IsBefore (in_units ticks ((count - 1) * duration)) (nanoseconds (pos length)))
      → IsOneRow (expansion_of_names ticks (At length) duration count)
  unfolding extents_by
  names_row length zero within = inl (in_units ticks 0, [], tt, refl)
  names_row length (suc count) within = inl (
    in_units ticks (0 * duration),
    cut_at (nanoseconds (pos length)) (extents_by ticks duration 0 (suc count)),
    cut_joined (nanoseconds (pos length)) (omega arith) (suc count) 0 (suc count - 1) (omega arith) (within (omega arith)),
    refl,
  )

  -- the segments of a duration
  pub durations_row : (end : End) (names : Option ℕ) → is_too_many ticks end duration names ≡ false
      → IsOneRow (members_by ticks end duration names)
  durations_row Unbounded None few =
      inr (extent_at ticks duration 0, record { one_scale = refl; end_is = positive; rises = omega (arith, ints) }, refl)
  durations_row (At length) None few =
      let count = steps_to_cover (nanoseconds (pos length)) (in_units ticks duration) in
      names_row length count (λ has. last_covers length (count - 1) (omega arith))
  durations_row Unbounded (Some count) few = inl (in_units ticks (0 * duration), extents_by ticks duration 0 count, by_joined count 0, refl)
  durations_row (At length) (Some count) few = names_row length count
      (λ has. at_most-false (nanoseconds (pos length)) (in_units ticks ((count - 1) * duration)) (grind (arith, nat_tests)))

pub durations_rise : DurationsRise
durations_rise ticks duration end names positive some few =
    let row = durations_row ticks duration positive some end names few in
    let members = members_by ticks end duration names in
    ends_rise members (row_lasting members row) (row_fault (λ _. false) members row (never_breaks members))

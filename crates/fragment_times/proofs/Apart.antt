-- Times that are the same as fractions, and the first ones that aren't.
use Rattle.std.proofs.Common.{◌≡◌, ℕ, suc, ◌+◌, ◌*◌, ◌<◌, ◌==◌, ℤ, pos, negsuc, ◌≤ℤ◌, ◌<ℤ◌, ◌+ℤ◌, ◌*ℤ◌, Bool, List, [], ◌∷◌, Option, Some}
use Rattle.std.proofs.{Common.{None, unsigned_abs, refl, ap, arith, ◌≤◌, length, option_map}, lemmas.Bool.Decides.Decides-eqb}
use Rattle.std.proofs.{lemmas.Bool.Decides.{Decides-int_eq, same_from_decides}, lemmas.Int.ints, Math.Nat.mul-le-mul_right}
use Rattle.std.specs.{Option.option_map_or, Prelude.slice_get}
use borrow.Author.Differences.{up, down}
use Rattle.exact_time.specs.Time.{Time, in_units}
use Rattle.meaning.specs.Differences.{is_same_time}
use Rattle.timeline.specs.{Expansions.{SegmentTimeline, Timing}, Listed.offset_of}
use Rattle.presentation.specs.{declared.parts.Content.Content, Presented.{Presented, content_at, listed_at}}
use Rattle.fragment_times.specs.{declared.fault.SegmentSpot.SegmentSpot, declared.times.SegmentTimes.SegmentTimes, Agreeing.apart_at}
use Rattle.fragment_times.specs.Agreeing.{apart_from, own_apart, sum_of}

-- ---- one time

module _ (t r s u : ℕ) where
  abbrev same : (start offset : ℤ) → Bool
  same start offset = is_same_time (sum_of (record { ticks = start; scale = r }) (record { ticks = offset; scale = s })) (in_units u t)

  -- a start from 0 on
  pub same_from : (start offset : ℤ) → pos 0 ≤ℤ start → pos 0 ≤ℤ offset
      → (t * r * s == unsigned_abs offset * r * u + unsigned_abs start * s * u) ≡ same start offset
  same_from (pos n) (pos m) from some =
      let x : ℤ = ((pos n *ℤ pos s) +ℤ (pos m *ℤ pos r)) *ℤ pos u in
      let y : ℤ = pos t *ℤ pos (r * s) in
      let ints_tell = Decides-int_eq x y in
      same_from_decides (t * r * s == m * r * u + n * s * u) (same (pos n) (pos m)) (Decides-eqb (t * r * s) (m * r * u + n * s * u))
      (λ e. omega (arith, ints, ints_tell.0 e), λ p. ints_tell.1 (omega (arith, ints, p)))
  same_from (negsuc n) offset from some = absurd (omega (arith, ints))
  same_from (pos n) (negsuc m) from some = absurd (omega (arith, ints))

  -- one before 0
  pub same_before : (start offset : ℤ) → start <ℤ pos 0 → pos 0 ≤ℤ offset
      → (unsigned_abs offset * r * u == t * r * s + unsigned_abs start * s * u) ≡ same start offset
  same_before (negsuc n) (pos m) before some =
      let sum : ℤ = (negsuc n *ℤ pos s) +ℤ (pos m *ℤ pos r) in
      let y : ℤ = pos t *ℤ pos (r * s) in
      let ints_tell = Decides-int_eq (sum *ℤ pos u) y in
      let apart : up sum + suc n * s ≡ down sum + m * r = omega (arith, ints) in
      let times : (up sum + suc n * s) * u ≡ (down sum + m * r) * u = ap (λ k. k * u) apart in
      same_from_decides (m * r * u == t * r * s + suc n * s * u) (same (negsuc n) (pos m))
      (Decides-eqb (m * r * u) (t * r * s + suc n * s * u))
      (λ e. omega (arith, ints, times, ints_tell.0 e), λ p. ints_tell.1 (omega (arith, ints, times, p)))
  same_before (pos n) offset before some = absurd (omega (arith, ints))
  same_before (negsuc n) (negsuc m) before some = absurd (omega (arith, ints))

-- ---- of segments, and of a track in a section

pub no_starts : (at : SegmentSpot) (offset : Time) (scale : ℕ) (xs : List Timing) → apart_from at offset scale xs [] ≡ None
no_starts at offset scale [] = refl
no_starts at offset scale (x ∷ xs) = refl

apart_by : (at : SegmentSpot) (listed : List Timing) (o : Option Content) (runs : SegmentTimeline) (own : SegmentTimes) (offset : Time)
    → option_map (λ (content : Content). content.runs) o ≡ Some runs → offset ≡ offset_of runs
    → apart_from at offset own.scale listed own.starts ≡ option_map_or (λ content. own_apart at listed content own) o None
apart_by at listed None runs own offset is same = absurd (cc)
apart_by at listed (Some content) runs own offset is same =
    let here : content.runs ≡ runs = cc in
    rw (same, here) refl

pub apart_is : (p : Presented) (times : List SegmentTimes) (s t : ℕ) (runs : SegmentTimeline) (own : SegmentTimes) (offset : Time)
    (listed : List Timing)
    → option_map (λ (content : Content). content.runs) (content_at p s t) ≡ Some runs
    → slice_get times (s * length p.tracks + t) ≡ Some own → offset ≡ offset_of runs → listed ≡ listed_at p s t
    → apart_from (record { section = s; track = t; segment = 0 }) offset own.scale listed own.starts ≡ apart_at p times s t
unfolding apart_at
apart_is p times s t runs own offset listed is there same_offset same_listed =
    rw (same_listed, there)
    (apart_by (record { section = s; track = t; segment = 0 }) (listed_at p s t) (content_at p s t) runs own offset is same_offset)

pub in_place : (s t sections tracks : ℕ) → s < sections → t < tracks → s * tracks + t < sections * tracks
in_place s t sections tracks in_sections in_tracks =
    let rows : (s + 1) * tracks ≤ sections * tracks = mul-le-mul_right tracks (omega arith) in
    omega (arith, rows)

-- The sums of printed durations, read in nanoseconds, are the times that are meant, rounded down.
use Rattle.std.proofs.Common.{◌≡◌, ℕ, suc, ◌+◌, ◌-◌, ◌*◌, ◌^◌, ◌≤◌, pos, List, [], ◌∷◌, map, take, sum, slice_get, All, Some, Ok, refl, sym}
use Rattle.std.proofs.{Common.{◌∙◌, ap, subst, arith, add-one, pow-add}, lemmas.List.Elements.{All-head, All-tail}}
use Rattle.std.proofs.lemmas.List.Sums.{sum_by-cons}
use Rattle.exact_time.specs.{Floor.floor_in, Laws.SumsAreFloors, Rounding.{IsRising, differences, printed}, Time.{Time, IsTime, difference}}
use Rattle.url_parts.specs.declared.address.Part.{Part}
use Rattle.timeline.specs.{Expansions.{SegmentTimeline, Timing}, Listed.part_of_timing}
use Rattle.meaning.specs.Same.{IsRounded, Pairwise, SameSegment}
use Rattle.presentation.specs.{Meanings.{part_meant, segment_of}, Printing.{ends_of, with_durations}}
use Rattle.hls_writer.specs.Finished.{items_at, part_or_none}
use Rattle.hls_meaning.specs.Sections.{nanoseconds, timed}
use Rattle.laws_of_playlists.specs.{ReadMedia.nanos_of, Same.read_of}

-- so many units are so many nanoseconds
same_count : (floor units unit : ℕ) → units * unit ≡ 10 ^ 9 → floor * (10 ^ 9 * 10 ^ 9) ≡ (floor * units * 10 ^ 9 + 0) * unit
same_count floor units unit are = omega (arith, ap (λ n. floor * 10 ^ 9 * n) are)

module _ (digits : ℕ) (few : digits ≤ 9) where
  rounded : (count : ℕ) (x : Time) → count ≡ nanos_of digits (floor_in (10 ^ digits) x)
      → IsRounded (10 ^ digits) x (difference (nanoseconds count) (nanoseconds 0))
  rounded count x is =
      let whole : 9 - digits + digits ≡ 9 = omega arith in
      let units : 10 ^ (9 - digits) * 10 ^ digits ≡ 10 ^ 9 = sym (pow-add 10 (9 - digits) digits) ∙ ap (λ n. 10 ^ n) whole in
      subst (λ n. IsRounded (10 ^ digits) x (difference (nanoseconds n) (nanoseconds 0))) (sym is)
      (ap pos (same_count (floor_in (10 ^ digits) x) (10 ^ (9 - digits)) (10 ^ digits) units))

  module _ (runs : SegmentTimeline) (initialization : Part) (section : ℕ) (begin : Time) where
    abbrev floor_of : Time → ℕ
    floor_of end = floor_in (10 ^ digits) (difference end begin)

    abbrev durations_behind : ℕ → List Timing → List ℕ
    durations_behind former xs = differences former (map floor_of (ends_of xs))

    -- from what was printed before on, the durations sum to the floors of the ends
    abbrev SumUp : ℕ → List Timing → Type 0
    SumUp former xs = (k : ℕ) (end : Time) → slice_get (ends_of xs) k ≡ Some end
        → former + sum (take (suc k) (durations_behind former xs)) ≡ floor_of end

    sums_go_on : (former : ℕ) (x : Timing) (xs : List Timing) → SumUp former (x ∷ xs) → SumUp (floor_of x.end) xs
    sums_go_on former x xs sums k end at =
        omega (
          arith,
          sums 0 x.end refl,
          sums (suc k) end at,
          sum_by-cons (λ m. m) (floor_of x.end - former)
              (take (suc k) (durations_behind (floor_of x.end) xs)),
        )

    pub timed_alike : (xs : List Timing) (former start : ℕ) → start ≡ nanos_of digits former
        → All (λ x. part_of_timing runs x ≡ Ok (part_meant runs x)) xs → SumUp former xs →
        Pairwise (SameSegment (IsRounded (10 ^ digits)) begin (nanoseconds 0)) (map (segment_of runs) xs)
        (timed start (map (read_of digits) (items_at runs initialization section (with_durations xs (durations_behind former xs)))))
    timed_alike [] former start is made sums = tt
    timed_alike (x ∷ xs) former start is made sums =
        let floor : ℕ = floor_of x.end in
        let own : part_of_timing runs x ≡ Ok (part_meant runs x) =
        All-head (λ x. part_of_timing runs x ≡ Ok (part_meant runs x)) x xs made in
        let whole : former + (floor - former) ≡ floor = omega (arith, sums 0 x.end refl) in
        let next : start + nanos_of digits (floor - former) ≡ nanos_of digits floor =
        omega (arith, is, ap (λ n. n * 10 ^ (9 - digits)) whole) in (
          record {
            part = sym (ap part_or_none own);
            time = rounded (start + nanos_of digits (floor - former))
                (difference x.end begin) next;
          },
          timed_alike xs floor (start + nanos_of digits (floor - former)) next
              (All-tail (λ x. part_of_timing runs x ≡ Ok (part_meant runs x)) x xs made) (sums_go_on former x xs sums),
        )

    pub sums_are : SumsAreFloors → (xs : List Timing) → IsTime begin → IsRising begin (ends_of xs) → SumUp 0 xs
    sums_are floors xs is_time rising k end at =
        let told : sum (take (k + 1) (printed (10 ^ digits) begin (ends_of xs))) ≡ floor_of end =
        floors (10 ^ digits) begin (ends_of xs) k end is_time rising at in
        omega (arith, ap (λ n. sum (take n (printed (10 ^ digits) begin (ends_of xs)))) (sym (add-one k)), told)

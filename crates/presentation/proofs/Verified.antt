-- Whether segments that are made one by one have addresses.
use Rattle.timeline.specs.declared.fault.ListFault.TheVariants as list_fault
use Rattle.std.proofs.Common.{◌≡◌, ℕ, suc, List, [], ◌∷◌, ◌++◌, length, map, slice_get, Some, Err, IsSome, IfSome, refl, sym, ◌∙◌, ap}
use Rattle.std.proofs.{Common.{subst, arith}, lemmas.List.length-map}
use Rattle.std.specs.Option.{option_map_or}
use Rattle.exact_time.specs.Rounding.{differences}
use Rattle.timeline.specs.{declared.fault.ListFault.ListFault, Names.list_refusal, Expansions.{SegmentTimeline, Timing}}
use Rattle.timeline.specs.Listed.{part_of_timing}
use Rattle.presentation.specs.{declared.parts.Content.Content, Presented.{Presented, content_at, listed_at}, Counting.{refusal, unless_any}}
use Rattle.presentation.specs.{Counting.{counted, count_faults, count_of_all, tracks_of}, Printing.{PrintedTiming, PrintedRest}}
use Rattle.presentation.specs.{Printing.{with_durations, durations_of, ends_of, printed_timings, rest_of, IsPrintedOf}, Verifying.fault_at}
use Rattle.presentation.specs.Verifying.{part_faults, times_of, longest_left, greatest, verified_rest, verified_at, longest_at, verified}
use Rattle.presentation.specs.Verifying.{url_faults, longest_of}

-- ---- the definitions of whole answers, opened

pub counted_is : (p : Presented) → counted p ≡ unless_any (count_faults p) (count_of_all p)
unfolding counted
counted_is p = refl

pub verified_is : (p : Presented) (unit : ℕ) → verified p unit ≡ unless_any (count_faults p ++ url_faults p)
    (map (longest_of p unit) (tracks_of p))
unfolding verified
verified_is p unit = refl

-- the first segment that is left has no address, or memory was wanting
pub fault_first : (timeline : SegmentTimeline) (s t k longest : ℕ) (left : List PrintedTiming) (fault : ListFault)
    → IsSome (slice_get left 0)
    → IfSome (list_refusal fault) (λ f. IfSome (slice_get left 0) (λ x. part_of_timing timeline x.times ≡ Err f))
    → IfSome (refusal (fault_at s t k fault)) (λ f. unless_any (part_faults timeline s t k (times_of left)) longest ≡ Err f)
fault_first timeline s t k longest left list_fault.Memory some refused = tt
fault_first timeline s t k longest [] (list_fault.Url fault) some refused = absurd (cc)
fault_first timeline s t k longest (x ∷ xs) (list_fault.Url fault) some refused = rw refused refl

-- ---- segments and durations apart again

differences_as_many : (n : ℕ) (ms : List ℕ) → length (differences n ms) ≡ length ms
differences_as_many n [] = refl
differences_as_many n (m ∷ ms) = ap suc (differences_as_many m ms)

times_apart : (xs : List Timing) (ds : List ℕ) → length ds ≡ length xs → times_of (with_durations xs ds) ≡ xs
times_apart [] ds same = refl
times_apart (x ∷ xs) [] same = absurd (omega arith)
times_apart (x ∷ xs) (d ∷ ds) same = ap (λ ys. x ∷ ys) (times_apart xs ds (omega arith))

durations_apart : (xs : List Timing) (ds : List ℕ) → length ds ≡ length xs → map (λ x. x.duration) (with_durations xs ds) ≡ ds
durations_apart [] [] same = refl
durations_apart [] (d ∷ ds) same = absurd (omega arith)
durations_apart (x ∷ xs) [] same = absurd (omega arith)
durations_apart (x ∷ xs) (d ∷ ds) same = ap (λ ys. d ∷ ys) (durations_apart xs ds (omega arith))

as_many : (unit : ℕ) (xs : List Timing) → length (durations_of unit xs) ≡ length xs
as_many unit xs = differences_as_many 0 _ ∙ length-map (ends_of xs) _ ∙ length-map xs _

with_as_many : (xs : List Timing) (ds : List ℕ) → length ds ≡ length xs → length (with_durations xs ds) ≡ length xs
with_as_many [] ds same = refl
with_as_many (x ∷ xs) [] same = absurd (omega arith)
with_as_many (x ∷ xs) (d ∷ ds) same = ap suc (with_as_many xs ds (omega arith))

pub length-printed : (unit : ℕ) (xs : List Timing) → length (printed_timings unit xs) ≡ length xs
length-printed unit xs = with_as_many xs (durations_of unit xs) (as_many unit xs)

module _ (p : Presented) (s t unit : ℕ) (rest : PrintedRest) (content : Content) (is : content_at p s t ≡ Some content)
    (made : IsPrintedOf p s t unit rest) where
  rest_is : rest ≡ rest_of content.runs (listed_at p s t) unit
  rest_is = subst (λ o. IfSome o (λ content. rest ≡ rest_of content.runs (listed_at p s t) unit)) is made

  pub left_as_many : length rest.left ≡ length (listed_at p s t)
  left_as_many = ap (λ r. length r.left) rest_is ∙ length-printed unit (listed_at p s t)

  pub verified_as : verified_rest rest s t ≡ verified_at p unit t s
  verified_as = let xs = listed_at p s t in
      ap (λ r. verified_rest r s t) rest_is
      ∙ ap (λ ys. unless_any (part_faults content.runs s t 0 ys) (longest_left (printed_timings unit xs)))
      (times_apart xs (durations_of unit xs) (as_many unit xs))
      ∙ ap (λ ds. unless_any (part_faults content.runs s t 0 xs) (greatest ds))
      (durations_apart xs (durations_of unit xs) (as_many unit xs))
      ∙ sym (ap (λ o. unless_any (option_map_or (λ content. part_faults content.runs s t 0 xs) o []) (longest_at p unit t s)) is)

-- Whether the segments of tracks have addresses, section by section.
use Rattle.std.proofs.Common.{◌≡◌, ℕ, ◌+◌, ◌<◌, max, List, ◌++◌, length, map, sum_by, Option, None, Some, Ok, Err, IfSome, refl, ◌∙◌, ap}
use Rattle.std.proofs.lemmas.List.Sums.{sum_by-cons}
use Rattle.std.specs.Option.{option_map_or}
use Rattle.timeline.specs.Listed.{answered_count}
use Rattle.presentation.specs.{declared.fault.PresentationFault.PresentationFault, declared.parts.Content.Content, Presented.Presented}
use Rattle.presentation.specs.{Presented.{window_of, content_at, listed_at}, Counting.{refusal, unless_any, number_in, listed_count}}
use Rattle.presentation.specs.{Printing.IsCounted, Verifying.greatest}
use Rattle.presentation.proofs.{Firsts.first_stays, Counts.{from_on, from_on-first}, Printing.if_some, Extents.count_of}

pub refused_stays : {X Y : Type 0} (fault : PresentationFault) (faults more : List PresentationFault) (x : X) (y : Y)
    → IfSome (refusal fault) (λ f. unless_any faults x ≡ Err f) → IfSome (refusal fault) (λ f. unless_any (faults ++ more) y ≡ Err f)
refused_stays fault faults more x y h = if_some (refusal fault) _ _ (λ f is. first_stays faults more f x y is) h

pub longest_here : (f : ℕ → ℕ) (i n : ℕ) → i < n → greatest (map f (from_on i n)) ≡ max (f i) (greatest (map f (from_on (i + 1) n)))
longest_here f i n within = ap (λ xs. greatest (map f xs)) (from_on-first i n within)

pub sum_here : (f : ℕ → ℕ) (i n : ℕ) → i < n → sum_by f (from_on i n) ≡ f i + sum_by f (from_on (i + 1) n)
sum_here f i n within = ap (sum_by f) (from_on-first i n within) ∙ sum_by-cons f i (from_on (i + 1) n)

-- what is counted is listed
module _ (p : Presented) (s t : ℕ) where
  counted_as : (o : Option Content) → content_at p s t ≡ o → IsCounted p s t → listed_count p t s ≡ length (listed_at p s t)
  counted_as None is counted = rw is refl
  counted_as (Some content) is counted =
      ap (λ o. number_in (option_map_or (λ content. answered_count content.runs (window_of p s)) o (Ok 0))) is
      ∙ ap number_in (count_of p s t content is counted)

  pub all_counted : IsCounted p s t → listed_count p t s ≡ length (listed_at p s t)
  all_counted counted = counted_as (content_at p s t) refl counted

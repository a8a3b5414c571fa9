-- Segments of a verified presentation have addresses.
use Rattle.timeline.specs.declared.fault.ListFault.TheVariants as list_fault
use Rattle.std.proofs.Common.{◌≡◌, ℕ, ◌+◌, ◌<◌, List, [], ◌∷◌, length, All, Option, None, Some, Result, Ok, Err, IfSome, refl, subst}
use Rattle.std.proofs.lemmas.List.Elements.{All-nil, All-cons, All-head, All-tail}
use Rattle.std.specs.Option.{option_map_or}
use Rattle.presentation.specs.{Printing.{PrintedTiming, durations_of, printed_timings, with_durations}, declared.parts.Content.Content}
use Rattle.presentation.specs.{Presented.{Presented, content_at, listed_at}, Verifying.{part_fault, part_faults, url_faults, url_faults_at}}
use Rattle.presentation.specs.{Verifying.url_faults_of, Laws.HasAddress}
use Rattle.url_parts.specs.declared.address.Part.{Part}
use Rattle.timeline.specs.{declared.fault.ListFault.ListFault, Expansions.{SegmentTimeline, Timing}, Listed.part_of_timing}
use Rattle.presentation.proofs.Reached.{none_first, none_later, none_within}

module _ (timeline : SegmentTimeline) where
  has_address : (s t k : ℕ) (x : Timing) (r : Result Part ListFault) → part_of_timing timeline x ≡ r → part_fault s t k r ≡ []
      → HasAddress timeline x
  has_address s t k x (Ok part) is none = (part, is)
  has_address s t k x (Err (list_fault.Url fault)) is none = absurd (cc)
  has_address s t k x (Err list_fault.Memory) is none = absurd (cc)

  all_have : (s t k : ℕ) (xs : List Timing) → part_faults timeline s t k xs ≡ [] → All (HasAddress timeline) xs
  all_have s t k [] none = All-nil (HasAddress timeline)
  all_have s t k (x ∷ xs) none = All-cons (HasAddress timeline) x xs
      (has_address s t k x (part_of_timing timeline x) refl (none_first (part_fault s t k (part_of_timing timeline x))
      (part_faults timeline s t (k + 1) xs) none))
      (all_have s t (k + 1) xs (none_later (part_fault s t k (part_of_timing timeline x)) (part_faults timeline s t (k + 1) xs) none))

  printed_have : (xs : List Timing) (ds : List ℕ) → All (HasAddress timeline) xs
      → All (λ x. HasAddress timeline x.times) (with_durations xs ds)
  printed_have [] ds all = All-nil (λ (x : PrintedTiming). HasAddress timeline x.times)
  printed_have (x ∷ xs) [] all = All-nil (λ (x : PrintedTiming). HasAddress timeline x.times)
  printed_have (x ∷ xs) (d ∷ ds) all = All-cons (λ (x : PrintedTiming). HasAddress timeline x.times) (record { times = x; duration = d })
      (with_durations xs ds) (All-head (HasAddress timeline) x xs all) (printed_have xs ds (All-tail (HasAddress timeline) x xs all))

module _ (p : Presented) (s t : ℕ) where
  listed_have : (o : Option Content) → content_at p s t ≡ o → url_faults_at p t s ≡ []
      → IfSome o (λ content. All (HasAddress content.runs) (listed_at p s t))
  listed_have None is none = tt
  listed_have (Some content) is none =
      all_have content.runs s t 0 (listed_at p s t)
      (subst (λ (o : Option Content). option_map_or (λ content. part_faults content.runs s t 0 (listed_at p s t)) o [] ≡ []) is none)

  pub all_addressed : url_faults p ≡ [] → s < length p.sections → t < length p.tracks
      → IfSome (content_at p s t) (λ content. All (HasAddress content.runs) (listed_at p s t))
  all_addressed none in_sections in_tracks =
      listed_have (content_at p s t) refl (none_within (url_faults_at p t) (length p.sections) s
      (none_within (url_faults_of p) (length p.tracks) t none in_tracks) in_sections)

  printed_in : (unit : ℕ) (o : Option Content) → IfSome o (λ content. All (HasAddress content.runs) (listed_at p s t))
      → IfSome o (λ content. All (λ x. HasAddress content.runs x.times) (printed_timings unit (listed_at p s t)))
  printed_in unit None has = tt
  printed_in unit (Some content) has = printed_have content.runs (listed_at p s t) (durations_of unit (listed_at p s t)) has

  pub addressed : (unit : ℕ) → url_faults p ≡ [] → s < length p.sections → t < length p.tracks
      → IfSome (content_at p s t) (λ content. All (λ x. HasAddress content.runs x.times) (printed_timings unit (listed_at p s t)))
  addressed unit none in_sections in_tracks = printed_in unit (content_at p s t) (all_addressed none in_sections in_tracks)

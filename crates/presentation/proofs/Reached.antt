-- A presentation whose segments are counted reaches each window.
use Rattle.std.proofs.Common.{◌≡◌, ℕ, suc, zero, ◌+◌, ◌<◌, Bool, true, false, List, [], ◌∷◌, ◌++◌, length, flat_map, Option, None, Some, Ok}
use Rattle.std.proofs.Common.{Err, IfSome, if◌then◌else◌, refl, subst, arith}
use Rattle.std.specs.{List.range_with_len, Option.option_map_or}
use Rattle.bridge_io.specs.declared.place.Place.{Place}
use Rattle.timeline.specs.{declared.fault.TimeFault.TheVariants.Range, Listed.{IsReached, answered_count}}
use Rattle.presentation.specs.{declared.parts.Content.Content, Presented.{Presented, is_finished, content_at, window_of}}
use Rattle.presentation.specs.Counting.{faults_of_count, section_faults, track_faults, count_faults, limit_faults, range_at, range_by}
use Rattle.presentation.specs.Counting.{range_faults, range_faults_of, whole_track_faults, is_over, sections_of, tracks_of, place_at}
use Rattle.presentation.specs.Verifying.{IsTrackCounted}

pub none_first : {X : Type 0} (xs ys : List X) → xs ++ ys ≡ [] → xs ≡ []
none_first [] ys none = refl
none_first (x ∷ xs) ys none = absurd (cc)

pub none_later : {X : Type 0} (xs ys : List X) → xs ++ ys ≡ [] → ys ≡ []
none_later [] ys none = none
none_later (x ∷ xs) ys none = absurd (cc)

-- a place that is one further
none_at : {X : Type 0} (f : ℕ → List X) (i m k : ℕ) → flat_map f (range_with_len i m) ≡ [] → k < m → f (i + k) ≡ []
none_at f i zero k none within = absurd (omega arith)
none_at f i (suc m) zero none within = let same : i ≡ i + zero = omega arith in subst (λ j. f j ≡ []) same (none_first (f i) _ none)
none_at f i (suc m) (suc k) none within =
    let same : (i + 1) + k ≡ i + suc k = omega arith in
    subst (λ j. f j ≡ []) same (none_at f (i + 1) m k (none_later (f i) _ none) (omega arith))

pub none_within : {X : Type 0} (f : ℕ → List X) (n k : ℕ) → flat_map f (range_with_len 0 n) ≡ [] → k < n → f k ≡ []
none_within f n k none within = let same : 0 + k ≡ k = omega arith in subst (λ j. f j ≡ []) same (none_at f 0 n k none within)

reached : (finished : Bool) (t s : ℕ) (place : Place) (is_out : Bool) (n : ℕ)
    → faults_of_count finished t s place (if is_out then Err Range else Ok n) ≡ [] → is_out ≡ false
reached finished t s place true n none = absurd (cc)
reached finished t s place false n none = refl

module _ (p : Presented) (t s : ℕ) where
  reached_in : (o : Option Content) → content_at p s t ≡ o → section_faults p t s ≡ []
      → IfSome o (λ content. IsReached content.runs (window_of p s))
  reached_in None is none = tt
  reached_in (Some content) is none =
      let window = window_of p s in
      reached (is_finished p) t s (place_at p t s) _ _
      (subst (λ o. faults_of_count (is_finished p) t s (place_at p t s)
      (option_map_or (λ content. answered_count content.runs window) o (Ok 0)) ≡ []) is none)

-- the same where ends alone are judged
module _ (p : Presented) (t s : ℕ) where
  ends : (is_out : Bool) (n : ℕ) → range_by p t s (if is_out then Err Range else Ok n) ≡ [] → is_out ≡ false
  ends true n none = absurd (cc)
  ends false n none = refl

  ends_in : (o : Option Content) → content_at p s t ≡ o → range_at p t s ≡ [] → IfSome o (λ content. IsReached content.runs (window_of p s))
  ends_in None is none = tt
  ends_in (Some content) is none =
      let window = window_of p s in
      ends _ _ (subst (λ o. range_by p t s (option_map_or (λ content. answered_count content.runs window) o (Ok 0)) ≡ []) is none)

pub ends_reached : (p : Presented) → range_faults p ≡ [] → (t : ℕ) → t < length p.tracks → IsTrackCounted p t
ends_reached p none t within s in_sections =
    ends_in p t s (content_at p s t) refl (none_within (range_at p t) (length p.sections) s
    (none_within (range_faults_of p) (length p.tracks) t none within) in_sections)

pub all_reached : (p : Presented) → count_faults p ≡ [] → (t : ℕ) → t < length p.tracks → IsTrackCounted p t
all_reached p none t within s in_sections =
    let tracks = none_first (flat_map (track_faults p) (tracks_of p)) (limit_faults (is_over p)) none in
    let track = none_within (track_faults p) (length p.tracks) t tracks within in
    let sections = none_first (flat_map (section_faults p t) (sections_of p)) (whole_track_faults p t) track in
    reached_in p t s (content_at p s t) refl (none_within (section_faults p t) (length p.sections) s sections in_sections)

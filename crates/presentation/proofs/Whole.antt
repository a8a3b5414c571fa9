-- A finished presentation of which the segments are counted has something of each track in each section.
use Rattle.std.proofs.Common.{◌≡◌, ℕ, zero, suc, ◌+◌, ◌<◌, true, List, [], ◌∷◌, length, map, flat_map, All, Option, None, Some, Result, Ok}
use Rattle.std.proofs.{Common.{Err, refl, sym, ◌∙◌, ap, subst, arith, zero-add}, lemmas.List.Elements.{All-cons, All-nil}}
use Rattle.std.specs.{Prelude.{is_some, option_and_then}, List.range_with_len, Option.option_map_or}
use Rattle.meaning.specs.Meanings.{Entry}
use Rattle.bridge_io.specs.declared.place.Place.{Place}
use Rattle.url_parts.specs.declared.address.Part.{Part}
use Rattle.timeline.specs.{declared.fault.TimeFault.TimeFault, Expansions.{SegmentTimeline, Timing}}
use Rattle.presentation.specs.{declared.parts.Content.Content, Presented.{Presented, is_finished, content_at, listed_at, listed_in}}
use Rattle.presentation.specs.{Presented.window_of, Counting.{count_at, count_faults, count_of_all, faults_of_count, is_over, limit_faults}}
use Rattle.presentation.specs.Counting.{number_in, place_at, section_faults, sections_of, track_faults, tracks_of, whole_track_faults}
use Rattle.presentation.specs.Meanings.{entry_at, entry_of, entry_with, head_of, is_kept, meaning_of, meaning_over, row_at, rows_of}
use Rattle.presentation.specs.MeaningLaws.{FinishedAreWhole}
use Rattle.presentation.proofs.{Firsts.none_before, Grids.all_kept, Reached.{all_reached, none_first, none_within}, Tracks.all_counted}
use Rattle.presentation.proofs.Verified.{counted_is}

something : {n : ℕ} → n ≡ 0 → (t s : ℕ) (place : Place) → faults_of_count true t s place (Ok n) ≡ [] → ⊥
something {n} zero_is t s place none = (let some = subst (λ n. faults_of_count true t s place (Ok n) ≡ []) zero_is none in absurd (cc))

-- so many are counted
not_none : (r : Result ℕ TimeFault) (t s : ℕ) (place : Place) → faults_of_count true t s place r ≡ [] → number_in r ≡ 0 → ⊥
not_none (Ok n) t s place none is = something is t s place none
not_none (Err fault) t s place none is = absurd (cc)

entry_some : (initialization : Part) (timeline : SegmentTimeline) (xs : List Timing) → (length xs ≡ 0 → ⊥)
    → is_some (entry_with initialization timeline xs) ≡ true
entry_some initialization timeline [] some = absurd (some refl)
entry_some initialization timeline (x ∷ xs) some = refl

module _ (p : Presented) (finished : is_finished p ≡ true) (none : count_faults p ≡ []) where
  module _ (s t : ℕ) (in_sections : s < length p.sections) (in_tracks : t < length p.tracks) where
    nothing_told : section_faults p t s ≡ []
    nothing_told =
        let tracks = none_first (flat_map (track_faults p) (tracks_of p)) (limit_faults (is_over p)) none in
        let track = none_within (track_faults p) (length p.tracks) t tracks in_tracks in
        none_within (section_faults p t) (length p.sections) s (none_first (flat_map (section_faults p t) (sections_of p))
        (whole_track_faults p t) track) in_sections

    listed_as : {o : Option Content} → content_at p s t ≡ o → length (listed_at p s t)
        ≡ length (option_map_or (λ content. listed_in (window_of p s) content.runs) o [])
    listed_as is = ap (λ o. length (option_map_or (λ content. listed_in (window_of p s) content.runs) o [])) is

    listed_some : length (listed_at p s t) ≡ 0 → ⊥
    listed_some is = not_none (count_at p t s) t s (place_at p t s)
        (subst (λ b. faults_of_count b t s (place_at p t s) (count_at p t s) ≡ []) finished nothing_told)
        (all_counted p s t (all_reached p none t in_tracks s in_sections) ∙ is)

    content_some : (o : Option Content) → content_at p s t ≡ o → is_some (option_and_then (entry_of (window_of p s)) o) ≡ true
    content_some None is = absurd (listed_some (listed_as is))
    content_some (Some content) is = entry_some content.initialization content.runs (listed_in (window_of p s) content.runs)
        (λ empty. listed_some (listed_as is ∙ empty))

    entry_there : is_some (entry_at p s t) ≡ true
    entry_there = content_some (content_at p s t) refl

  kept : (n : ℕ) (entry : ℕ → Option Entry) → 0 < n → is_some (entry 0) ≡ true → is_kept (map entry (range_with_len 0 n)) ≡ true
  kept zero entry some is = absurd (omega (arith, some))
  kept (suc n) entry some is = rw is refl

  all_rows : 0 < length p.tracks → (first n : ℕ) → first + n ≡ length p.sections
      → All (λ row. is_kept row ≡ true) (map (row_at p) (range_with_len first n))
  all_rows some first zero same = All-nil (λ row. is_kept row ≡ true)
  all_rows some first (suc n) same =
      All-cons (λ row. is_kept row ≡ true) (row_at p first) _ (kept (length p.tracks) (entry_at p first) some
      (entry_there first 0 (omega (arith, same)) some))
      (all_rows some (first + 1) n (omega (arith, same)))

  pub whole : 0 < length p.tracks → meaning_of p ≡ meaning_over (map head_of p.tracks) (rows_of p)
  unfolding meaning_of
  whole some = ap (meaning_over (map head_of p.tracks))
      (all_kept is_kept (rows_of p) (all_rows some 0 (length p.sections) (zero-add (length p.sections))))

pub finished_are_whole : FinishedAreWhole
finished_are_whole p n finished is some = whole p finished (none_before (count_faults p) (count_of_all p) n (sym (counted_is p) ∙ is)) some

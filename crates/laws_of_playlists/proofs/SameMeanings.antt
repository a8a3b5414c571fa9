-- What is read of a presentation's tracks means what the presentation means, with each time rounded down.
use Rattle.std.proofs.Common.{◌≡◌, ℕ, ◌+◌, ◌^◌, ◌<◌, ◌≤◌, cond, Bool, true, false, List, [], ◌∷◌, length, map, filter, slice_get, All}
use Rattle.std.proofs.{Common.{is_some, Option, None, Some, refl, sym, ◌∙◌, ap, subst, ⊎_elim, arith}, lemmas.Bool.{and_right, cases_lt}}
use Rattle.std.proofs.{lemmas.Bool.{not_from_false, false≢true}, lemmas.List.length-map, lemmas.List.Elements.{All-filter, All-from_get_or}}
use Rattle.std.proofs.{lemmas.List.Elements.{All-head, All-tail, All-weaker}, lemmas.List.FromFn.get_or-map-range_with_len}
use Rattle.std.proofs.lemmas.List.FromFn.{get_or-range_with_len, length-map-range_with_len, length-range_with_len}
use Rattle.std.proofs.lemmas.Option.{slice_get-get_or}
use Rattle.std.specs.{Prelude.option_and_then, List.{list_any, range_with_len}}
use Rattle.exact_time.specs.{Laws.SumsAreFloors, Time.Time}
use Rattle.meaning.specs.{Meanings.Entry, Same.{IsRounded, Pairwise, SameEntries, SameTrack, Same}}
use Rattle.presentation.specs.{declared.track.Track.Track, Counting.sections_of, MeaningLaws.VerifiedAreMeant, Meanings.{entry_at, head_of}}
use Rattle.presentation.specs.Meanings.{is_kept, meaning_of, row_at, rows_of, tracks_from, entry_in as entry_of_track}
use Rattle.presentation.specs.{Meanings.meaning_over as meant_over, Presented.Presented}
use Rattle.hls_writer.specs.{Finished.{section_items, track_items}, Playlists.Item}
use Rattle.hls_meaning.specs.{Laws.NumbersAreThoseTold, Meanings.{Source, is_told, is_text, lacks_map, meaning_of_kept, meaning_of_sources}}
use Rattle.hls_meaning.specs.{Meanings.{meaning_over, track_over, is_kept as is_kept_source}, Sections.{is_in, entry_of, entry_in}}
use Rattle.laws_of_playlists.specs.{ReadMedia.track_media, Same.{AreRead, AreReadFrom, ReadMeanTheSame, read_of}}
use Rattle.laws_of_playlists.proofs.{SameEntries.entry_alike, SameSections.{any_is_entry, section_missing, section_there}}

same_some : (R : Time → Time → Type 0) (a b : Option Entry) → SameEntries R a b → is_some a ≡ is_some b
same_some R None None same = refl
same_some R (Some a) (Some b) same = refl
same_some R None (Some b) same = absurd same
same_some R (Some a) None same = absurd same

-- ---- members of lists

module _ {X Y : Type 0} (f : X → Y) (test : Y → Bool) (told : X → Bool) where
  one_more : (b : Bool) (x : X) (xs : List X) (ys : List Y) → ys ≡ map f xs → cond b (f x ∷ ys) ys ≡ map f (cond b (x ∷ xs) xs)
  one_more true x xs ys same = ap (λ zs. f x ∷ zs) same
  one_more false x xs ys same = same

  -- what passes of what is made of some, is made of those that are told
  kept_of : (xs : List X) → All (λ x. test (f x) ≡ told x) xs → filter test (map f xs) ≡ map f (filter told xs)
  kept_of [] all = refl
  kept_of (x ∷ xs) all =
      rw (All-head (λ x. test (f x) ≡ told x) x xs all)
      (one_more (told x) x (filter told xs) (filter test (map f xs)) (kept_of xs (All-tail (λ x. test (f x) ≡ told x) x xs all)))

all_below : (n : ℕ) → All (λ k. k < n) (range_with_len 0 n)
all_below n = All-from_get_or (λ k. k < n) (range_with_len 0 n) 0
    (λ i within. omega (
      arith,
      within,
      length-range_with_len 0 n,
      get_or-range_with_len 0 n i 0 (omega (arith, within, length-range_with_len 0 n)),
    ))

-- ---- no source is left out

module _ (digits : ℕ) where
  none_lacks : (items : List Item) → list_any lacks_map (map (read_of digits) items) ≡ false
  none_lacks [] = refl
  none_lacks (item ∷ items) = none_lacks items

  module _ (p : Presented) where
    all_kept : (t : ℕ) (tracks : List Track) (sources : List Source) → AreReadFrom p digits t tracks sources
        → filter is_kept_source sources ≡ sources
    all_kept t [] [] read = refl
    all_kept t [] (source ∷ sources) read = absurd read
    all_kept t (track ∷ tracks) [] read = absurd read
    all_kept t (track ∷ tracks) (source ∷ sources) read =
        let mapped : list_any lacks_map source.media.segments ≡ false = ap (list_any lacks_map) read.0.segments
        ∙ none_lacks (track_items p (10 ^ digits) t) in
        let kept : is_kept_source source ≡ true = not_from_false _ (and_right (is_text source.track.kind) _ mapped) in
        rw kept (ap (λ ys. source ∷ ys) (all_kept (t + 1) tracks sources read.1))

module _ (p : Presented) (digits : ℕ)
    (alike : (s t : ℕ) → s < length p.sections → t < length p.tracks
    → SameEntries (IsRounded (10 ^ digits)) (entry_at p s t) (entry_of (map (read_of digits) (section_items p (10 ^ digits) t s))))
  where
    read_alike : (s t : ℕ) → s < length p.sections → t < length p.tracks
        → SameEntries (IsRounded (10 ^ digits)) (entry_at p s t) (entry_in (track_media p digits t).segments s)
    read_alike s t in_sections in_tracks =
        subst (λ xs. SameEntries (IsRounded (10 ^ digits)) (entry_at p s t) (entry_of xs)) (sym (section_there p digits t s in_sections))
        (alike s t in_sections in_tracks)

    -- ---- the numbers

    -- a section's number is told exactly where some track has something there
    told_from : (s : ℕ) → s < length p.sections → (t : ℕ) (tracks : List Track) (sources : List Source)
        → t + length tracks ≡ length p.tracks
        → AreReadFrom p digits t tracks sources →
        list_any is_some (map (entry_at p s) (range_with_len t (length tracks))) ≡ is_told sources s
    told_from s within t [] [] all read = refl
    told_from s within t [] (source ∷ sources) all read = absurd read
    told_from s within t (track ∷ tracks) [] all read = absurd read
    told_from s within t (track ∷ tracks) (source ∷ sources) all read =
        let here : is_some (entry_at p s t) ≡ list_any (is_in s) source.media.segments =
        same_some (IsRounded (10 ^ digits)) _ _ (read_alike s t within (omega arith))
        ∙ sym (any_is_entry s (track_media p digits t).segments) ∙ ap (list_any (is_in s)) (sym read.0.segments) in
        let later = told_from s within (t + 1) tracks sources (omega arith) read.1 in
        cc

    missing_from : (s : ℕ) → length p.sections ≤ s → (t : ℕ) (tracks : List Track) (sources : List Source)
        → AreReadFrom p digits t tracks sources → is_told sources s ≡ false
    missing_from s behind t [] [] read = refl
    missing_from s behind t [] (source ∷ sources) read = absurd read
    missing_from s behind t (track ∷ tracks) [] read = absurd read
    missing_from s behind t (track ∷ tracks) (source ∷ sources) read =
        let here : list_any (is_in s) source.media.segments ≡ false =
        ap (list_any (is_in s)) read.0.segments ∙ any_is_entry s (track_media p digits t).segments
        ∙ ap (λ xs. is_some (entry_of xs)) (section_missing p digits t s behind) in
        rw here (missing_from s behind (t + 1) tracks sources read.1)

    told_within : (sources : List Source) → AreRead p digits sources → (s : ℕ) → is_told sources s ≡ true → s < length p.sections
    told_within sources read s told = ⊎_elim (λ within. within)
        (λ behind. absurd (false≢true (sym (missing_from s behind 0 p.tracks sources read) ∙ told))) (cases_lt s (length p.sections))

    -- ---- the tracks

    in_row : (s t : ℕ) → t < length p.tracks → entry_of_track t (row_at p s) ≡ entry_at p s t
    in_row s t within =
        let place : slice_get (row_at p s) t ≡ Some (entry_at p s t) =
        slice_get-get_or (row_at p s) t None (omega (arith, within, length-map-range_with_len (entry_at p s) 0 (length p.tracks)))
        ∙ ap Some (get_or-map-range_with_len (entry_at p s) 0 (length p.tracks) t t None within (omega arith)) in
        ap (option_and_then (λ (entry : Option Entry). entry)) place

    entries_alike : (t : ℕ) (source : Source) → t < length p.tracks → source.media.segments ≡ (track_media p digits t).segments
        → (numbers : List ℕ) → All (λ n. n < length p.sections) numbers →
        Pairwise (SameEntries (IsRounded (10 ^ digits))) (map (entry_of_track t) (map (row_at p) numbers))
        (map (entry_in source.media.segments) numbers)
    entries_alike t source within segments [] below = tt
    entries_alike t source within segments (s ∷ numbers) below = (
      subst (λ entry. SameEntries (IsRounded (10 ^ digits)) entry (entry_in source.media.segments s)) (sym (in_row s t within))
          (subst (λ xs. SameEntries (IsRounded (10 ^ digits)) (entry_at p s t) (entry_in xs s)) (sym segments)
          (read_alike s t (All-head (λ n. n < length p.sections) s numbers below) within)),
      entries_alike t source within segments numbers (All-tail (λ n. n < length p.sections) s numbers below),
    )

    tracks_alike : (numbers : List ℕ) → All (λ n. n < length p.sections) numbers → (t : ℕ) (tracks : List Track) (sources : List Source)
        → t + length tracks ≡ length p.tracks → AreReadFrom p digits t tracks sources →
        Pairwise (SameTrack (IsRounded (10 ^ digits))) (tracks_from t (map (row_at p) numbers) (map head_of tracks))
        (map (track_over numbers) sources)
    tracks_alike numbers below t [] [] all read = tt
    tracks_alike numbers below t [] (source ∷ sources) all read = absurd read
    tracks_alike numbers below t (track ∷ tracks) [] all read = absurd read
    tracks_alike numbers below t (track ∷ tracks) (source ∷ sources) all read = (
      record {
        kind = sym read.0.kind;
        language = sym read.0.language;
        entries = entries_alike t source (omega arith) read.0.segments numbers below;
      },
      tracks_alike numbers below (t + 1) tracks sources (omega arith) read.1,
    )

    pub same_meaning : NumbersAreThoseTold → (sources : List Source) → AreRead p digits sources
        → Same (IsRounded (10 ^ digits)) (meaning_of p) (meaning_of_sources sources)
    unfolding meaning_of meaning_of_sources
    same_meaning those sources read =
        let numbers : List ℕ = filter (is_told sources) (sections_of p) in
        let rows : filter is_kept (rows_of p) ≡ map (row_at p) numbers =
        kept_of (row_at p) is_kept (is_told sources) (sections_of p)
        (All-weaker (λ s. s < length p.sections) (λ s. is_kept (row_at p s) ≡ is_told sources s)
        (λ s within. told_from s within 0 p.tracks sources (omega arith) read) (sections_of p) (all_below (length p.sections))) in
        let below : All (λ s. s < length p.sections) numbers = All-filter (is_told sources) (λ s. s < length p.sections) (sections_of p)
        (all_below (length p.sections)) in
        subst (λ kept. Same (IsRounded (10 ^ digits)) (meant_over (map head_of p.tracks) kept)
        (meaning_of_kept (filter is_kept_source sources))) (sym rows)
        (subst (λ kept. Same (IsRounded (10 ^ digits)) (meant_over (map head_of p.tracks) (map (row_at p) numbers)) (meaning_of_kept kept))
        (sym (all_kept digits p 0 p.tracks sources read))
        (subst (λ told. Same (IsRounded (10 ^ digits)) (meant_over (map head_of p.tracks) (map (row_at p) numbers))
        (meaning_over told sources)) (sym (those sources (length p.sections) (told_within sources read)))
        (record { sections = length-map numbers (row_at p); tracks = tracks_alike numbers below 0 p.tracks sources (omega arith) read })))

pub read_mean_the_same : SumsAreFloors → VerifiedAreMeant → NumbersAreThoseTold → ReadMeanTheSame
read_mean_the_same floors meant those p digits sources verified few ordered read =
    same_meaning p digits (λ s t in_sections in_tracks. entry_alike floors digits few meant p verified s t in_sections in_tracks
    (ordered s t in_sections in_tracks)) those sources read

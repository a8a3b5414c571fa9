-- What two meanings of presentations differ in is what is compared of these.
use Rattle.meaning.specs.declared.difference.Aspect.TheVariants as aspect
use Rattle.differences.specs.declared.deviation.How.TheVariants as how
use Rattle.std.proofs.Common.{◌≡◌, ℕ, zero, suc, ◌+◌, ◌<◌, Bool, true, false, List, [], ◌∷◌, ◌++◌, cond, length, map, filter, min, Option}
use Rattle.std.proofs.Common.{Some}
use Rattle.std.proofs.{Common.{refl, subst, sym, ◌∙◌, ap, arith, zero-add}, lemmas.List.{Elements.{All-cons, All-nil}, length-map}}
use Rattle.std.specs.Prelude.{option_and_then}
use Rattle.meaning.specs.{Differences.in_all, Meanings.{Entry, Meaning}}
use Rattle.presentation.specs.{declared.track.Track.Track, Counting.sections_of, Presented.Presented}
use Rattle.presentation.specs.Meanings.{Head, entry_at, entry_in, head_of, is_kept, meaning_of, meaning_over, row_at, tracks_from}
use Rattle.presentation.proofs.Allowed.{each_at}
use Rattle.differences.specs.Agreeing.{HasSections, HaveEntries, IsEntries}
use Rattle.differences.specs.Deviating.{deviation, deviations, heads_deviations, number_deviations}
use Rattle.differences.specs.Deviating.{tracks_deviations, tracks_greatest}
use Rattle.differences.specs.{Heads.{at_track, head_beside, heads_from}, Sections.{contents_from, greatest_from}}
use Rattle.differences.specs.Sections.{kept_sections}

-- ---- the meaning of a presentation, of the sections in which some track has content

filtered : {X Y : Type 0} (test : Y → Bool) (f : X → Y) (x : X) (chosen : Bool) (ys : List Y) (xs : List X) → ys ≡ map f xs
    → cond chosen (f x ∷ ys) ys ≡ map f (cond chosen (x ∷ xs) xs)
filtered test f x true ys xs same = ap (λ zs. f x ∷ zs) same
filtered test f x false ys xs same = same

filter-map : {X Y : Type 0} (test : Y → Bool) (f : X → Y) (xs : List X) → filter test (map f xs) ≡ map f (filter (λ x. test (f x)) xs)
filter-map test f [] = refl
filter-map test f (x ∷ xs) = filtered test f x (test (f x)) _ _ (filter-map test f xs)

entry_there : (p : Presented) (s t : ℕ) → t < length p.tracks → entry_in t (row_at p s) ≡ entry_at p s t
entry_there p s t below = ap (λ o. option_and_then (λ entry. entry) o) (each_at (entry_at p s) 0 (length p.tracks) t below)
    ∙ ap (entry_at p s) (zero-add t)

entries_there : (p : Presented) (t : ℕ) (ss : List ℕ) → t < length p.tracks
    → map (entry_in t) (map (row_at p) ss) ≡ map (λ s. entry_at p s t) ss
entries_there p t [] below = refl
entries_there p t (s ∷ ss) below = rw (entry_there p s t below, entries_there p t ss below) refl

abbrev rows_kept : Presented → List (List (Option Entry))
rows_kept p = map (row_at p) (kept_sections p)

abbrev kept_meaning : Presented → Meaning
kept_meaning p = meaning_over (map head_of p.tracks) (rows_kept p)

as_kept : (p : Presented) → meaning_of p ≡ kept_meaning p
unfolding meaning_of
as_kept p = ap (meaning_over (map head_of p.tracks)) (filter-map is_kept (row_at p) (sections_of p))

as_many_tracks : (t : ℕ) (rows : List (List (Option Entry))) (xs : List Head) → length (tracks_from t rows xs) ≡ length xs
as_many_tracks t rows [] = refl
as_many_tracks t rows (x ∷ xs) = ap suc (as_many_tracks (t + 1) rows xs)

-- ---- each track has an entry for each section

entries_over : (t : ℕ) (rows : List (List (Option Entry))) (xs : List Head) → HaveEntries (length rows) (tracks_from t rows xs)
entries_over t rows [] = All-nil (IsEntries (length rows))
entries_over t rows (x ∷ xs) = All-cons (IsEntries (length rows)) _ (tracks_from (t + 1) rows xs) (length-map rows (entry_in t))
    (entries_over (t + 1) rows xs)

pub have_sections : (p : Presented) → HasSections (meaning_of p)
have_sections p = subst HasSections (sym (as_kept p)) (entries_over 0 (rows_kept p) (map head_of p.tracks))

-- ---- what differs

heads_as : (t : ℕ) (a b : List (List (Option Entry))) (xs ys : List Track)
    → heads_deviations t (tracks_from t a (map head_of xs)) (tracks_from t b (map head_of ys)) ≡ heads_from t xs ys
heads_as t a b [] [] = refl
heads_as t a b (x ∷ xs) [] = ap (λ later. deviation (at_track t) how.Missing ∷ later) (heads_as (t + 1) a b xs [])
heads_as t a b [] (y ∷ ys) = ap (λ later. deviation (at_track t) how.Extra ∷ later) (heads_as (t + 1) a b [] ys)
heads_as t a b (x ∷ xs) (y ∷ ys) = ap (λ later. head_beside t x (Some y) ++ later) (heads_as (t + 1) a b xs ys)

module _ (a b : Presented) where
  greatest_as : (n t : ℕ) (xs ys : List Head) → n ≡ min (length xs) (length ys) → t + length xs ≡ length a.tracks
      → t + length ys ≡ length b.tracks
      → tracks_greatest (tracks_from t (rows_kept a) xs) (tracks_from t (rows_kept b) ys) ≡ greatest_from a b t n
  greatest_as zero t [] ys both in_a in_b = refl
  greatest_as zero t (x ∷ xs) [] both in_a in_b = refl
  greatest_as zero t (x ∷ xs) (y ∷ ys) both in_a in_b = absurd (omega (arith, both))
  greatest_as (suc n) t [] ys both in_a in_b = absurd (omega (arith, both))
  greatest_as (suc n) t (x ∷ xs) [] both in_a in_b = absurd (omega (arith, both))
  greatest_as (suc n) t (x ∷ xs) (y ∷ ys) both in_a in_b = rw (
    entries_there a t (kept_sections a) (omega (arith, in_a)),
    entries_there b t (kept_sections b) (omega (arith, in_b)),
    greatest_as n (t + 1) xs ys (omega (arith, both)) (omega (arith, in_a)) (omega (arith, in_b)),
  ) refl

  module _ (within unit : ℕ) where
    tracks_as : (n t : ℕ) (xs ys : List Head) → n ≡ min (length xs) (length ys) → t + length xs ≡ length a.tracks
        → t + length ys ≡ length b.tracks
        → tracks_deviations within unit t (tracks_from t (rows_kept a) xs) (tracks_from t (rows_kept b) ys)
        ≡ contents_from within unit a b t n
    tracks_as zero t [] ys both in_a in_b = refl
    tracks_as zero t (x ∷ xs) [] both in_a in_b = refl
    tracks_as zero t (x ∷ xs) (y ∷ ys) both in_a in_b = absurd (omega (arith, both))
    tracks_as (suc n) t [] ys both in_a in_b = absurd (omega (arith, both))
    tracks_as (suc n) t (x ∷ xs) [] both in_a in_b = absurd (omega (arith, both))
    tracks_as (suc n) t (x ∷ xs) (y ∷ ys) both in_a in_b = rw (
      entries_there a t (kept_sections a) (omega (arith, in_a)),
      entries_there b t (kept_sections b) (omega (arith, in_b)),
      tracks_as n (t + 1) xs ys (omega (arith, both)) (omega (arith, in_a)) (omega (arith, in_b)),
    ) refl

  abbrev pub of_both : ℕ
  of_both = min (length a.tracks) (length b.tracks)

  as_both : of_both ≡ min (length (map head_of a.tracks)) (length (map head_of b.tracks))
  as_both = omega (arith, length-map a.tracks head_of, length-map b.tracks head_of)

  mine : 0 + length (map head_of a.tracks) ≡ length a.tracks
  mine = omega (arith, length-map a.tracks head_of)

  theirs : 0 + length (map head_of b.tracks) ≡ length b.tracks
  theirs = omega (arith, length-map b.tracks head_of)

  pub greatest_opened : tracks_greatest (meaning_of a).tracks (meaning_of b).tracks ≡ greatest_from a b 0 of_both
  greatest_opened = ap (λ m. tracks_greatest m.tracks (meaning_of b).tracks) (as_kept a)
      ∙ ap (λ m. tracks_greatest (kept_meaning a).tracks m.tracks) (as_kept b)
      ∙ greatest_as of_both 0 (map head_of a.tracks) (map head_of b.tracks) as_both mine theirs

  module _ (within unit : ℕ) where
    kept_deviations : deviations within unit (kept_meaning a) (kept_meaning b)
        ≡ number_deviations (in_all aspect.Sections) (length (kept_sections a)) (length (kept_sections b))
        ++ (number_deviations (in_all aspect.Tracks) (length a.tracks) (length b.tracks)
        ++ (heads_from 0 a.tracks b.tracks ++ contents_from within unit a b 0 of_both))
    unfolding deviations
    kept_deviations = rw (
      length-map (kept_sections a) (row_at a),
      length-map (kept_sections b) (row_at b),
      as_many_tracks 0 (rows_kept a) (map head_of a.tracks),
      as_many_tracks 0 (rows_kept b) (map head_of b.tracks),
      length-map a.tracks head_of,
      length-map b.tracks head_of,
      heads_as 0 (rows_kept a) (rows_kept b) a.tracks b.tracks,
      tracks_as within unit of_both 0 (map head_of a.tracks) (map head_of b.tracks) as_both mine theirs,
    ) refl

    pub opened : deviations within unit (meaning_of a) (meaning_of b)
        ≡ number_deviations (in_all aspect.Sections) (length (kept_sections a)) (length (kept_sections b))
        ++ (number_deviations (in_all aspect.Tracks) (length a.tracks) (length b.tracks)
        ++ (heads_from 0 a.tracks b.tracks ++ contents_from within unit a b 0 of_both))
    opened = ap (λ m. deviations within unit m (meaning_of b)) (as_kept a)
        ∙ ap (λ m. deviations within unit (kept_meaning a) m) (as_kept b) ∙ kept_deviations

-- Tracks over sections, one after another.
use Rattle.std.proofs.Common.{◌≡◌, ℕ, zero, suc, ◌+◌, ◌≤◌, List, [], ◌∷◌, ◌++◌, drop, length, map, max, refl, sym, ◌∙◌, ap, arith}
use Rattle.std.proofs.{Common.{Option, None, Some}, lemmas.List.{drop-drop, length-drop, length-map, nil_from_length}}
use Rattle.std.specs.Prelude.{option_and_then, slice_get}
use Rattle.meaning.specs.Meanings.{Entry}
use Rattle.presentation.specs.Meanings.{entry_at}
use Rattle.differences.specs.declared.{collected.Collected.Collected, contents.Both.Both, deviation.Deviation.Deviation, side.Side.Side}
use Rattle.differences.specs.Collecting.{all_added, noted, of_next_track}
use Rattle.differences.specs.Contents.{AreSides, contents_noted, entries_in, section_noted, track_noted, unit_of}
use Rattle.differences.specs.Deviating.{entries_deviations, entries_greatest, entry_deviations, entry_greatest}
use Rattle.differences.specs.{Sections.entries_of, Sides.entry_of}
use Rattle.differences.proofs.Collecting.{all_added_more, noted_more, noted_none, same_greatest}

drop_first : (f : ℕ → Option Entry) (xs : List ℕ) (k : ℕ)
    → option_and_then (λ entry. entry) (slice_get (drop k (map f xs)) 0) ≡ option_and_then f (slice_get xs k)
drop_first f [] zero = refl
drop_first f [] (suc k) = refl
drop_first f (x ∷ xs) zero = refl
drop_first f (x ∷ xs) (suc k) = drop_first f xs k

-- ---- the first sections of two lists, one of which may have ended

abbrev first_of_all : List (Option Entry) → Option Entry
first_of_all xs = option_and_then (λ entry. entry) (slice_get xs 0)

greatest_alone : (a : Option Entry) → entry_greatest a None ≡ 0
greatest_alone None = refl
greatest_alone (Some a) = refl

greatest_none : (xs : List (Option Entry)) → entries_greatest xs [] ≡ 0
greatest_none [] = refl
greatest_none (x ∷ xs) = refl

module _ (within unit t place : ℕ) (c : Collected) where
  abbrev first_found : (a b : Option Entry) → List Deviation
  first_found a b = entry_deviations within unit t place a b

  abbrev later_found : (xs ys : List (Option Entry)) → List Deviation
  later_found xs ys = entries_deviations within unit t (place + 1) xs ys

  next_entries : (xs ys : List (Option Entry))
      → noted c (entries_deviations within unit t place xs ys) (entries_greatest xs ys)
      ≡ noted (noted c (first_found (first_of_all xs) (first_of_all ys)) (entry_greatest (first_of_all xs) (first_of_all ys)))
      (later_found (drop 1 xs) (drop 1 ys)) (entries_greatest (drop 1 xs) (drop 1 ys))
  next_entries [] [] = sym (noted_more c [] [] 0 0)
  next_entries (a ∷ xs) (b ∷ ys) = sym (noted_more c (first_found a b) (later_found xs ys) (entry_greatest a b) (entries_greatest xs ys))
  next_entries (a ∷ xs) [] = sym (noted_more c (first_found a None) (later_found xs []) (entry_greatest a None) (entries_greatest xs [])
      ∙ ap (noted c (first_found a None ++ later_found xs [])) (omega (arith, greatest_alone a, greatest_none xs)))
  next_entries [] (b ∷ ys) = sym (noted_more c (first_found None b) (later_found [] ys) 0 0)

abbrev entries_behind : Side → (t place : ℕ) → List (Option Entry)
entries_behind side t place = drop place (entries_in side t)

entries_end : (side : Side) (t place : ℕ) → length side.sections ≤ place → entries_behind side t place ≡ []
entries_end side t place past =
    let all : length (entries_in side t) ≡ length side.sections = length-map side.sections (λ s. entry_at side.presentation.now s t) in
    nil_from_length (entries_behind side t place) (omega (arith, length-drop place (entries_in side t), all, past))

module _ (both : Both) (t place : ℕ) (c : Collected) where
  abbrev noted_of : (a b : Option Entry) → (xs ys : List (Option Entry)) → Collected
  noted_of a b xs ys = noted (noted c (entry_deviations both.tolerance.within (unit_of both) t place a b) (entry_greatest a b))
      (entries_deviations both.tolerance.within (unit_of both) t (place + 1) xs ys) (entries_greatest xs ys)

  abbrev behind : Side → List (Option Entry)
  behind side = entries_behind side t place

  first_is : (side : Side) → first_of_all (behind side) ≡ entry_of side place t
  first_is side = drop_first (λ s. entry_at side.presentation.now s t) side.sections place

  later_is : (side : Side) → drop 1 (behind side) ≡ entries_behind side t (place + 1)
  later_is side = drop-drop 1 place (entries_in side t)

  pub next_section : track_noted both t place c ≡ track_noted both t (place + 1) (section_noted both t place c)
  next_section = next_entries both.tolerance.within (unit_of both) t place c (behind both.mpd) (behind both.playlists)
      ∙ ap (λ a. noted_of a (first_of_all (behind both.playlists)) (drop 1 (behind both.mpd)) (drop 1 (behind both.playlists)))
      (first_is both.mpd)
      ∙ ap (λ b. noted_of (entry_of both.mpd place t) b (drop 1 (behind both.mpd)) (drop 1 (behind both.playlists)))
      (first_is both.playlists)
      ∙ ap (λ xs. noted_of (entry_of both.mpd place t) (entry_of both.playlists place t) xs (drop 1 (behind both.playlists)))
      (later_is both.mpd)
      ∙ ap (λ ys. noted_of (entry_of both.mpd place t) (entry_of both.playlists place t) (entries_behind both.mpd t (place + 1)) ys)
      (later_is both.playlists)

  pub both_end : length both.mpd.sections ≤ place → length both.playlists.sections ≤ place → track_noted both t place c ≡ c
  both_end mine theirs = rw (entries_end both.mpd t place mine, entries_end both.playlists t place theirs) (noted_none c)

-- ---- tracks

module _ (both : Both) (sides : AreSides both) (t m : ℕ) (c : Collected) (none : c.greatest ≡ 0) where
  abbrev found : List Deviation
  found = entries_deviations both.tolerance.within (unit_of both) t 0 (entries_of both.mpd.presentation.now t)
      (entries_of both.playlists.presentation.now t)

  mine : entries_in both.mpd t ≡ entries_of both.mpd.presentation.now t
  mine = ap (map (λ s. entry_at both.mpd.presentation.now s t)) sides.mpd.sections

  theirs : entries_in both.playlists t ≡ entries_of both.playlists.presentation.now t
  theirs = ap (map (λ s. entry_at both.playlists.presentation.now s t)) sides.playlists.sections

  track_is : track_noted both t 0 c ≡ noted c found (entries_greatest (entries_of both.mpd.presentation.now t)
      (entries_of both.playlists.presentation.now t))
  track_is = rw (mine, theirs) refl

  none_noted : of_next_track (track_noted both t 0 c) ≡ all_added c found
  none_noted = ap of_next_track track_is ∙ ap (λ g. record (all_added c found) { greatest = g }) (sym (same_greatest c found ∙ none))

  pub next_track : contents_noted both t (suc m) c ≡ contents_noted both (t + 1) m (of_next_track (track_noted both t 0 c))
  next_track = sym (ap (contents_noted both (t + 1) m) none_noted ∙ all_added_more c found _)

  pub greatest_is : (track_noted both t 0 c).greatest
      ≡ entries_greatest (entries_of both.mpd.presentation.now t) (entries_of both.playlists.presentation.now t)
  greatest_is = ap (λ d. d.greatest) track_is ∙ ap (λ g. max g (entries_greatest (entries_of both.mpd.presentation.now t)
      (entries_of both.playlists.presentation.now t))) (same_greatest c found ∙ none) ∙ omega arith

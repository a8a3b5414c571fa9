-- What holds of each two tracks of a presentation in each section.
use Rattle.std.proofs.Common.{◌≡◌, ℕ, ◌+◌, ◌<◌, List, [], ◌∷◌, map, filter, length, All, Option, option_and_then, sym, ap, arith}
use Rattle.std.proofs.{Common.subst, lemmas.List.length-map}
use Rattle.std.proofs.lemmas.List.Elements.{All-cons, All-filter, All-head, All-map, All-nil, All-tail, All-weaker}
use Rattle.meaning.specs.{Meanings.{Entry, Track}, Same.Pairwise}
use Rattle.presentation.specs.{Counting.sections_of, Presented.Presented}
use Rattle.presentation.specs.Meanings.{Head, entry_at, entry_in, head_of, is_kept, meaning_of, row_at, rows_of, tracks_from}
use Rattle.hls_presentation.proofs.Grouping.{places_below}
use Rattle.laws_of_mpds.proofs.PresentedMeant.{at_place}
use Rattle.laws_of_jobs.specs.TimedRuns.{EachTwo, IfBoth}

module _ (P : Entry → Entry → Type 0) where
  abbrev HoldsIn : (tracks : ℕ) → List (Option Entry) → Type 0
  HoldsIn tracks row = (t u : ℕ) → t < tracks → u < tracks → IfBoth P (entry_in t row) (entry_in u row)

  abbrev HoldsOf : Track → Track → Type 0
  HoldsOf one other = Pairwise (IfBoth P) one.entries other.entries

  in_rows : (rows : List (List (Option Entry))) (tracks t u : ℕ) → All (HoldsIn tracks) rows → t < tracks → u < tracks
      → Pairwise (IfBoth P) (map (entry_in t) rows) (map (entry_in u) rows)
  in_rows [] tracks t u all here there = tt
  in_rows (row ∷ rows) tracks t u all here there = (
    All-head (HoldsIn tracks) row rows all t u here there,
    in_rows rows tracks t u (All-tail (HoldsIn tracks) row rows all) here there,
  )

  module _ (rows : List (List (Option Entry))) (tracks : ℕ) (all : All (HoldsIn tracks) rows) where
    abbrev track_at : (t : ℕ) → Head → Track
    track_at t head = record { kind = head.kind; language = head.language; entries = map (entry_in t) rows }

    others : (t : ℕ) (own : Head) (u : ℕ) (heads : List Head) → t < tracks → u + length heads ≡ tracks
        → All (HoldsOf (track_at t own)) (tracks_from u rows heads)
    others t own u [] here there = All-nil (HoldsOf (track_at t own))
    others t own u (head ∷ heads) here there =
        All-cons (HoldsOf (track_at t own)) (track_at u head) (tracks_from (u + 1) rows heads)
        (in_rows rows tracks t u all here (omega (arith, there)))
        (others t own (u + 1) heads here (omega (arith, there)))

    each_one : (whole : List Head) (t : ℕ) (heads : List Head) → length whole ≡ tracks → t + length heads ≡ tracks
        → All (λ (one : Track). All (HoldsOf one) (tracks_from 0 rows whole)) (tracks_from t rows heads)
    each_one whole t [] as_many here = All-nil (λ (one : Track). All (HoldsOf one) (tracks_from 0 rows whole))
    each_one whole t (head ∷ heads) as_many here =
        All-cons (λ (one : Track). All (HoldsOf one) (tracks_from 0 rows whole)) (track_at t head) (tracks_from (t + 1) rows heads)
        (others t head 0 whole (omega (arith, here)) (omega (arith, as_many)))
        (each_one whole (t + 1) heads as_many (omega (arith, here)))

  -- what a row has for a track
  placed : (p : Presented) (s t : ℕ) → t < length p.tracks → entry_at p s t ≡ entry_in t (row_at p s)
  placed p s t there =
      sym (ap (option_and_then (λ (entry : Option Entry). entry)) (at_place (entry_at p s) (length p.tracks) t there))

  pub each_two : (p : Presented)
      → ((s t u : ℕ) → s < length p.sections → t < length p.tracks → u < length p.tracks → IfBoth P (entry_at p s t) (entry_at p s u))
      → EachTwo P (meaning_of p)
  unfolding meaning_of
  each_two p has =
      let n = length p.tracks in
      let rows : All (HoldsIn n) (rows_of p) = All-map (HoldsIn n) (row_at p) (sections_of p)
      (All-weaker (λ s. s < length p.sections) (λ s. HoldsIn n (row_at p s))
      (λ s within t u here there. subst (λ one. IfBoth P one (entry_in u (row_at p s))) (placed p s t here)
      (subst (IfBoth P (entry_at p s t)) (placed p s u there) (has s t u within here there)))
      (sections_of p) (places_below (length p.sections))) in
      let heads = map head_of p.tracks in
      let as_many : length heads ≡ n = length-map p.tracks head_of in
      each_one (filter is_kept (rows_of p)) n (All-filter is_kept (HoldsIn n) (rows_of p) rows) heads 0 heads as_many
      (omega (arith, as_many))

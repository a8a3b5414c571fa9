-- What presentations mean, by what each track has in each section.
use Rattle.std.proofs.Common.{◌≡◌, ℕ, zero, suc, ◌+◌, ◌||◌, ◌<◌, cond, List, [], ◌∷◌, map, filter, length, All, Option, Some, None, IfSome}
use Rattle.std.proofs.{Common.{Bool, true, false, is_some, option_and_then, refl, ap, ap₂, sym, subst, arith}, lemmas.List.length-map}
use Rattle.std.proofs.lemmas.List.Elements.{All-cons, All-filter, All-head, All-map, All-nil, All-tail, All-weaker}
use Rattle.std.specs.List.{range_with_len}
use Rattle.exact_time.specs.Time.{Time}
use Rattle.meaning.specs.{Meanings.{Entry, Track}, Same.{Pairwise, Same, SameEntries, SameTrack}}
use Rattle.meaning.proofs.SameLemmas.{Pairwise-length}
use Rattle.presentation.specs.{Counting.{sections_of, tracks_of}, Presented.Presented}
use Rattle.presentation.specs.Meanings.{Head, entry_at, entry_in, head_of, is_kept, meaning_of, row_at, rows_of, tracks_from}
use Rattle.hls_presentation.proofs.Grouping.{places_below}
use Rattle.laws_of_mpds.specs.Timed.{EachEntry}
use Rattle.laws_of_mpds.proofs.PresentedMeant.{at_place}

-- what a row has for a track
entry_placed : (p : Presented) (s t : ℕ) → t < length p.tracks → entry_in t (row_at p s) ≡ entry_at p s t
entry_placed p s t there = ap (option_and_then (λ (entry : Option Entry). entry)) (at_place (entry_at p s) (length p.tracks) t there)

-- ---- what holds of each entry

module _ (P : Entry → Type 0) where
  abbrev HoldsIn : (tracks : ℕ) → List (Option Entry) → Type 0
  HoldsIn tracks row = (t : ℕ) → t < tracks → IfSome (entry_in t row) P

  abbrev HoldsOf : Track → Type 0
  HoldsOf track = All (λ (entry : Option Entry). IfSome entry P) track.entries

  by_track : (rows : List (List (Option Entry))) (tracks t : ℕ) (heads : List Head) → All (HoldsIn tracks) rows
      → t + length heads ≡ tracks → All HoldsOf (tracks_from t rows heads)
  by_track rows tracks t [] all here = All-nil HoldsOf
  by_track rows tracks t (head ∷ heads) all here =
      All-cons HoldsOf (record { kind = head.kind; language = head.language; entries = map (entry_in t) rows })
      (tracks_from (t + 1) rows heads)
      (All-map (λ (entry : Option Entry). IfSome entry P) (entry_in t) rows
      (All-weaker (HoldsIn tracks) (λ row. IfSome (entry_in t row) P) (λ row holds. holds t (omega (arith, here))) rows all))
      (by_track rows tracks (t + 1) heads all (omega (arith, here)))

  pub each_entry : (p : Presented)
      → ((s t : ℕ) → s < length p.sections → t < length p.tracks → IfSome (entry_at p s t) P) → EachEntry P (meaning_of p)
  unfolding meaning_of
  each_entry p has =
      let n = length p.tracks in
      let rows : All (HoldsIn n) (rows_of p) = All-map (HoldsIn n) (row_at p) (sections_of p)
      (All-weaker (λ s. s < length p.sections) (λ s. HoldsIn n (row_at p s))
      (λ s here t there. subst (λ entry. IfSome entry P) (sym (entry_placed p s t there)) (has s t here there))
      (sections_of p) (places_below (length p.sections))) in
      by_track (filter is_kept (rows_of p)) n 0 (map head_of p.tracks) (All-filter is_kept (HoldsIn n) (rows_of p) rows)
      (omega (arith, length-map p.tracks head_of))

-- ---- two presentations of the same tracks and sections

pairs_below : {X Y : Type 0} (R : X → Y → Type 0) (f : ℕ → X) (g : ℕ → Y) (places : List ℕ) → All (λ k. R (f k) (g k)) places
    → Pairwise R (map f places) (map g places)
pairs_below R f g [] all = tt
pairs_below R f g (k ∷ places) all =
    let P : ℕ → Type 0 = λ k. R (f k) (g k) in
    (All-head P k places all, pairs_below R f g places (All-tail P k places all))

kept_pairs : {X : Type 0} (R : X → X → Type 0) (test : X → Bool) → ((x y : X) → R x y → test x ≡ test y) → (xs ys : List X)
    → Pairwise R xs ys → Pairwise R (filter test xs) (filter test ys)
kept_pairs R test alike [] [] pairs = tt
kept_pairs R test alike [] (y ∷ ys) pairs = absurd pairs
kept_pairs R test alike (x ∷ xs) [] pairs = absurd pairs
kept_pairs R test alike (x ∷ xs) (y ∷ ys) pairs =
    go (test x) (test y) (alike x y pairs.0) (kept_pairs R test alike xs ys pairs.1)
  where
    go : (a b : Bool) → a ≡ b → Pairwise R (filter test xs) (filter test ys)
        → Pairwise R (cond a (x ∷ filter test xs) (filter test xs)) (cond b (y ∷ filter test ys) (filter test ys))
    go true true is later = (pairs.0, later)
    go false false is later = later
    go true false is later = absurd (cc)
    go false true is later = absurd (cc)

module _ (Alike : Time → Time → Type 0) where
  abbrev AreRows : List (Option Entry) → List (Option Entry) → Type 0
  AreRows xs ys = Pairwise (SameEntries Alike) xs ys

  both_there : (a b : Option Entry) → SameEntries Alike a b → is_some a ≡ is_some b
  both_there None None same = refl
  both_there (Some a) (Some b) same = refl
  both_there None (Some b) same = absurd same
  both_there (Some a) None same = absurd same

  both_kept : (xs ys : List (Option Entry)) → AreRows xs ys → is_kept xs ≡ is_kept ys
  both_kept [] [] same = refl
  both_kept [] (y ∷ ys) same = absurd same
  both_kept (x ∷ xs) [] same = absurd same
  both_kept (x ∷ xs) (y ∷ ys) same = ap₂ (λ a b. a || b) (both_there x y same.0) (both_kept xs ys same.1)

  both_at : (t : ℕ) (xs ys : List (Option Entry)) → AreRows xs ys → SameEntries Alike (entry_in t xs) (entry_in t ys)
  both_at t [] [] same = tt
  both_at t [] (y ∷ ys) same = absurd same
  both_at t (x ∷ xs) [] same = absurd same
  both_at zero (x ∷ xs) (y ∷ ys) same = same.0
  both_at (suc t) (x ∷ xs) (y ∷ ys) same = both_at t xs ys same.1

  of_track : (t : ℕ) (rows others : List (List (Option Entry))) → Pairwise AreRows rows others
      → Pairwise (SameEntries Alike) (map (entry_in t) rows) (map (entry_in t) others)
  of_track t [] [] same = tt
  of_track t [] (y ∷ ys) same = absurd same
  of_track t (x ∷ xs) [] same = absurd same
  of_track t (x ∷ xs) (y ∷ ys) same = (both_at t x y same.0, of_track t xs ys same.1)

  of_tracks : (rows others : List (List (Option Entry))) → Pairwise AreRows rows others → (t : ℕ) (heads : List Head)
      → Pairwise (SameTrack Alike) (tracks_from t rows heads) (tracks_from t others heads)
  of_tracks rows others same t [] = tt
  of_tracks rows others same t (head ∷ heads) =
      (record { kind = refl; language = refl; entries = of_track t rows others same }, of_tracks rows others same (t + 1) heads)

  pub same_entries_mean : (p q : Presented) → q.tracks ≡ p.tracks → length q.sections ≡ length p.sections
      → ((s t : ℕ) → s < length p.sections → t < length p.tracks → SameEntries Alike (entry_at p s t) (entry_at q s t))
      → Same Alike (meaning_of p) (meaning_of q)
  unfolding meaning_of
  same_entries_mean p q tracks sections each =
      let row : (s : ℕ) → s < length p.sections → AreRows (row_at p s) (row_at q s) = λ s here.
      subst (λ n. AreRows (row_at p s) (map (entry_at q s) (range_with_len 0 n))) (sym (ap length tracks))
      (pairs_below (SameEntries Alike) (entry_at p s) (entry_at q s) (tracks_of p)
      (All-weaker (λ t. t < length p.tracks) (λ t. SameEntries Alike (entry_at p s t) (entry_at q s t)) (λ t there. each s t here there)
      (tracks_of p) (places_below (length p.tracks)))) in
      let rows : Pairwise AreRows (rows_of p) (rows_of q) =
      subst (λ n. Pairwise AreRows (rows_of p) (map (row_at q) (range_with_len 0 n))) (sym sections)
      (pairs_below AreRows (row_at p) (row_at q) (sections_of p)
      (All-weaker (λ s. s < length p.sections) (λ s. AreRows (row_at p s) (row_at q s)) row
      (sections_of p) (places_below (length p.sections)))) in
      let kept = kept_pairs AreRows is_kept both_kept (rows_of p) (rows_of q) rows in
      let of = of_tracks (filter is_kept (rows_of p)) (filter is_kept (rows_of q)) kept 0 (map head_of p.tracks) in
      record {
        sections = Pairwise-length AreRows _ _ kept;
        tracks = subst (λ (tracks : List _). Pairwise (SameTrack Alike) (tracks_from 0 (filter is_kept (rows_of p)) (map head_of p.tracks))
            (tracks_from 0 (filter is_kept (rows_of q)) (map head_of tracks))) (sym tracks) of;
      }

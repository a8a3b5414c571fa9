-- Sections one after another.
use Rattle.std.proofs.Common.{◌≡◌, ℕ, suc, ◌+◌, ◌-◌, ◌<◌, ◌≤◌, ◌^◌, Bool, false, leb, ltb, List, [], ◌∷◌, length, refl, sym, ◌∙◌, ap, arith}
use Rattle.std.proofs.{lemmas.Bool.{leb-false, lt-leb, or_parts}, lemmas.List.length-map, lemmas.List.FromFn.length-range_with_len}
use Rattle.std.proofs.lemmas.List.Sums.{sum_by-cons}
use Rattle.std.specs.List.{list_any, sum_by}
use Rattle.hls_media.specs.declared.media.MediaSegment.{MediaSegment}
use Rattle.hls_presentation.specs.Sections.{is_over_limit, is_too_long, row_at, row_length, rows_from, rows_of, section_count}

pub row_next : (tracks : List (List (List MediaSegment))) (place count : ℕ) → place < count
    → rows_from tracks place (count - place) ≡ row_at tracks place ∷ rows_from tracks (place + 1) (count - (place + 1))
row_next tracks place count within =
    let left : count - place ≡ suc (count - (place + 1)) = omega arith in
    rw left refl

pub no_rows : (tracks : List (List (List MediaSegment))) (place count : ℕ) → count ≤ place → rows_from tracks place (count - place) ≡ []
no_rows tracks place count past =
    let none : count - place ≡ 0 = omega arith in
    rw none refl

pub count_rows : (tracks : List (List (List MediaSegment))) → length (rows_of tracks) ≡ section_count tracks
count_rows tracks = length-map _ _ ∙ length-range_with_len 0 (section_count tracks)

-- ---- how long they last

pub length_next : (tracks : List (List (List MediaSegment))) (place count : ℕ) → place < count
    → sum_by row_length (rows_from tracks place (count - place)) ≡ row_length (row_at tracks place) + sum_by row_length
    (rows_from tracks (place + 1) (count - (place + 1)))
length_next tracks place count within =
    ap (sum_by row_length) (row_next tracks place count within)
    ∙ sum_by-cons row_length (row_at tracks place) (rows_from tracks (place + 1) (count - (place + 1)))

skipped : {X : Type 0} (test : X → Bool) (x : X) (xs : List X) → test x ≡ false → list_any test (x ∷ xs) ≡ list_any test xs
skipped test x xs is = rw is refl

-- the next one isn't too long
pub short_next : (tracks : List (List (List MediaSegment))) (place count : ℕ) → place < count → row_length (row_at tracks place) < 2 ^ 63
    → list_any is_too_long (rows_from tracks place (count - place))
    ≡ list_any is_too_long (rows_from tracks (place + 1) (count - (place + 1)))
short_next tracks place count within short =
    ap (list_any is_too_long) (row_next tracks place count within)
    ∙ skipped is_too_long (row_at tracks place) (rows_from tracks (place + 1) (count - (place + 1)))
    (lt-leb (2 ^ 63) (row_length (row_at tracks place)) short)

-- where none is too long, those behind the next one aren't
pub short_later : (tracks : List (List (List MediaSegment))) (place count : ℕ) → place < count
    → list_any is_too_long (rows_from tracks place (count - place)) ≡ false
    → list_any is_too_long (rows_from tracks (place + 1) (count - (place + 1))) ≡ false
short_later tracks place count within short =
    (or_parts (is_too_long (row_at tracks place)) _ (sym (ap (list_any is_too_long) (row_next tracks place count within)) ∙ short)).1

-- what a presentation keeps within its limits
pub record IsWithin (rows : List (List (List MediaSegment))) : Type 0 where
  pub short : list_any is_too_long rows ≡ false
  pub total : sum_by row_length rows < 10 ^ 19

pub within_limit : (rows : List (List (List MediaSegment))) → is_over_limit rows ≡ false → IsWithin rows
within_limit rows is =
    let parts = or_parts _ _ is in
    record { short = parts.0; total = leb-false (10 ^ 19) _ (or_parts _ _ parts.1).0 }

pub many_if : (rows : List (List (List MediaSegment))) (count : ℕ) → list_any is_too_long rows ≡ false → sum_by row_length rows < 10 ^ 19
    → length rows ≡ count → ltb 1000 count ≡ is_over_limit rows
many_if rows count short small many =
    let few : leb (10 ^ 19) (sum_by row_length rows) ≡ false = lt-leb (10 ^ 19) (sum_by row_length rows) small in
    rw (short, few) (ap (ltb 1000) (sym many))

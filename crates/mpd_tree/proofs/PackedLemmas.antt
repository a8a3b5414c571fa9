-- What packed rows stand for as they grow.
use Rattle.std.proofs.Common.{◌≡◌, ℕ, suc, zero, ◌+◌, ◌-◌, ◌<◌, List, [], ◌∷◌, ◌++◌, length, set, get_or, arith, Some, slice_get, refl}
use Rattle.std.proofs.{Common.{ap, ◌∙◌}, lemmas.Bool.Decides.nat_tests, lemmas.List.{get_or_append_left, get_or_read, length-append}}
use Rattle.std.proofs.lemmas.List.Elements.{All-head, All-tail, All-weaker}
use Rattle.std.specs.List.{All}
use Rattle.mpd_tree.specs.{declared.element_table.PackedRow.PackedRow, declared.tree.ElementRow.ElementRow}
use Rattle.mpd_tree.specs.Packed.{ArePacked, IsPacked, IsPackedAs, narrow_row, row_of, rows_of}

pub rows_length : (wide : List ElementRow) (next : ℕ) (rows : List PackedRow) → length (rows_of wide next rows) ≡ length rows
rows_length wide next [] = refl
rows_length wide next (r ∷ rs) = ap suc (rows_length wide (next + 1) rs)

pub rows_pushed : (wide : List ElementRow) (next : ℕ) (rows : List PackedRow) (r : PackedRow)
    → rows_of wide next (rows ++ r ∷ []) ≡ rows_of wide next rows ++ row_of wide (next + length rows) r ∷ []
rows_pushed wide next [] r = grind arith
rows_pushed wide next (x ∷ rs) r = grind (arith, rows_pushed wide (next + 1) rs r)

pub rows_set : (wide : List ElementRow) (next : ℕ) (rows : List PackedRow) (i : ℕ) (r : PackedRow)
    → rows_of wide next (set rows i r) ≡ set (rows_of wide next rows) i (row_of wide (next + i) r)
rows_set wide next [] i r = refl
rows_set wide next (x ∷ rs) zero r = grind arith
rows_set wide next (x ∷ rs) (suc i) r = grind (arith, rows_set wide (next + 1) rs i r)

pub row_at : (wide : List ElementRow) (next : ℕ) (rows : List PackedRow) (i : ℕ) (r : PackedRow) → i < length rows → r ≡ get_or rows i r
    → slice_get (rows_of wide next rows) i ≡ Some (row_of wide (next + i) r)
row_at wide next [] i r within is = absurd (omega arith)
row_at wide next (x ∷ rs) zero r within is = grind arith
row_at wide next (x ∷ rs) (suc i) r within is = grind (arith, row_at wide (next + 1) rs i r (omega arith) is)

-- more wide rows change no row
rows_stay : (wide more : List ElementRow) (next : ℕ) (rows : List PackedRow) → All (IsPacked (length wide)) rows
    → rows_of (wide ++ more) next rows ≡ rows_of wide next rows
rows_stay wide more next [] all = refl
rows_stay wide more next (r ∷ rs) all =
    grind (
      arith,
      nat_tests,
      (All-head (IsPacked (length wide)) r rs all).code,
      get_or_append_left wide more (narrow_row next r) (r.code - 65536),
      rows_stay wide more (next + 1) rs (All-tail (IsPacked (length wide)) r rs all),
    )

pub wide_stays : (next : ℕ) (row : ElementRow) (wide new : List ElementRow) (rows : List PackedRow) (r : PackedRow) → ArePacked wide rows
    → IsPackedAs next row wide new r → rows_of new 1 rows ≡ rows_of wide 1 rows
wide_stays next row wide new rows r packed is = ap (λ w. rows_of w 1 rows) is.wide ∙ rows_stay wide is.more 1 rows packed.all

pub ruleset packed_rows = (nat_tests, get_or_read, rows_length, rows_pushed, rows_set, row_at, wide_stays)

-- packed rows stay so where more are wide
pub still_packed : (next : ℕ) (row : ElementRow) (wide new : List ElementRow) (rows : List PackedRow) (r : PackedRow) → ArePacked wide rows
    → IsPackedAs next row wide new r → All (IsPacked (length new)) rows
still_packed next row wide new rows r packed is =
    All-weaker (IsPacked (length wide)) (IsPacked (length new))
    (λ s s_is. record { within = s_is.within; code = grind (arith, s_is.code, is.wide, length-append wide is.more) }) rows packed.all

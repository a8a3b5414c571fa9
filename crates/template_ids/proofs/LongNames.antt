-- How long names are at least, and whether they are one segment each.
use Rattle.std.proofs.Common.{◌≡◌, ℕ, ◌+◌, ◌-◌, ◌<◌, ◌≤◌, ◌^◌, true, List, [], ◌∷◌, ◌++◌, length, take, flat_map, get_or}
use Rattle.std.proofs.{Common.{refl, sym, ap, ◌∙◌, subst, arith, length-append}, lemmas.Bool.{and_parts, and_from}}
use Rattle.std.proofs.{lemmas.Bool.Decides.nat_tests, lemmas.List.Folds.list_all-append, lemmas.List.take_more}
use Rattle.std.proofs.{lemmas.List.Concat.flat_map-append, lemmas.Str.Parse.{numerals_by_value, tells_all_ascii_digits}}
use Rattle.std.proofs.{lemmas.Fmt.digits_decimal}
use Rattle.std.specs.{Prelude.decimal, List.list_all, Char.is_ascii_digit, Fmt.digits, Str.all_ascii_digits}
use Rattle.template_ids.specs.{declared.piece.Piece.Piece, declared.identifier.Quantity.Quantity, Templates.{padded, quantity}}
use Rattle.template_ids.specs.declared.identifier.Quantity.TheVariants.{Number, Time, Bandwidth}
use Rattle.template_ids.specs.{Filled.ids_with, Pieces.{AreOf, piece_text}}
use Rattle.template_ids.specs.{Long.{ForEach, IsAtLeast, IsSegment, is_segment_byte, names_of, texts_of}}
use Rattle.template_ids.proofs.FileNames.{zeros_are_digits}

digit_is : (d : ℕ) → is_ascii_digit d ≡ true → is_segment_byte d ≡ true
digit_is d digit = grind (arith, nat_tests)

digits_are : (ds : List ℕ) → all_ascii_digits ds ≡ true → list_all is_segment_byte ds ≡ true
digits_are [] are = refl
digits_are (d ∷ ds) are = let both = and_parts (is_ascii_digit d) (all_ascii_digits ds) are in
    and_from (is_segment_byte d) _ (digit_is d both.0) (digits_are ds both.1)

number_below : (id : List ℕ) (bandwidth number time : ℕ) (q : Quantity) → bandwidth < 2 ^ 64 → number < 2 ^ 64 → time < 2 ^ 64
    → quantity (ids_with id bandwidth number time) q < 2 ^ 64
number_below id bandwidth number time Number slow low early = low
number_below id bandwidth number time Time slow low early = early
number_below id bandwidth number time Bandwidth slow low early = slow

-- a number is digits
pub number_is_segment : (id : List ℕ) (bandwidth number time width : ℕ) (q : Quantity) → bandwidth < 2 ^ 64 → number < 2 ^ 64
    → time < 2 ^ 64
    → IsSegment (padded width (decimal (quantity (ids_with id bandwidth number time) q)))
unfolding digits
number_is_segment id bandwidth number time width q slow low early =
    let own = numerals_by_value (λ ds. all_ascii_digits ds ≡ true) tells_all_ascii_digits in
    let n : ℕ = quantity (ids_with id bandwidth number time) q in
    digits_are (padded width (decimal n)) (zeros_are_digits (width - length (decimal n)) (decimal n)
    (digits_decimal own n (number_below id bandwidth number time q slow low early)))

-- ---- the pieces so far

abbrev pub so_far : (media id : List ℕ) (bandwidth : ℕ) → List Piece → (number time : ℕ) → List ℕ
so_far media id bandwidth pieces number time = flat_map (piece_text media (ids_with id bandwidth number time)) pieces

pub longer : (media id : List ℕ) (bandwidth : ℕ) (pieces : List Piece) (piece : Piece) (len more next : ℕ)
    → ForEach (so_far media id bandwidth pieces) (IsAtLeast len) → ForEach (texts_of media id bandwidth piece) (IsAtLeast more)
    → next ≤ len + more
    → ForEach (so_far media id bandwidth (pieces ++ piece ∷ [])) (IsAtLeast next)
longer media id bandwidth pieces piece len more next before here sum number time low early =
    let text = piece_text media (ids_with id bandwidth number time) in
    let a = before number time low early in
    let b = here number time low early in
    let whole = ap length (flat_map-append text pieces (piece ∷ [])) in
    omega (arith, whole, length-append (flat_map text pieces) (text piece ++ []), length-append (text piece) [], a, b, sum)

pub segment_more : (media id : List ℕ) (bandwidth : ℕ) (pieces : List Piece) (piece : Piece)
    → ForEach (so_far media id bandwidth pieces) IsSegment → ForEach (texts_of media id bandwidth piece) IsSegment
    → ForEach (so_far media id bandwidth (pieces ++ piece ∷ [])) IsSegment
segment_more media id bandwidth pieces piece before here number time low early =
    let text = piece_text media (ids_with id bandwidth number time) in
    ap (list_all is_segment_byte) (flat_map-append text pieces (piece ∷ []))
    ∙ list_all-append is_segment_byte (flat_map text pieces) (text piece ++ [])
    ∙ and_from _ _ (before number time low early) (list_all-append is_segment_byte (text piece) []
    ∙ and_from _ _ (here number time low early) refl)

pub all_named : (media id : List ℕ) (bandwidth : ℕ) (pieces : List Piece) (P : List ℕ → Type 0) → AreOf media pieces
    → ForEach (so_far media id bandwidth pieces) P → ForEach (names_of media id bandwidth) P
all_named media id bandwidth pieces P are each number time low early =
    subst P (are.names (ids_with id bandwidth number time)) (each number time low early)

-- ---- one more piece

pub longer_next : (media id : List ℕ) (bandwidth : ℕ) (pieces : List Piece) (i : ℕ) (d : Piece) (len more next : ℕ) → i < length pieces
    → ForEach (so_far media id bandwidth (take i pieces)) (IsAtLeast len)
    → ForEach (texts_of media id bandwidth (get_or pieces i d)) (IsAtLeast more)
    → next ≤ len + more → ForEach (so_far media id bandwidth (take (i + 1) pieces)) (IsAtLeast next)
longer_next media id bandwidth pieces i d len more next inside before here sum =
    subst (λ ps. ForEach (so_far media id bandwidth ps) (IsAtLeast next)) (sym (take_more pieces i d inside))
    (longer media id bandwidth (take i pieces) (get_or pieces i d) len more next before here sum)

pub segment_next : (media id : List ℕ) (bandwidth : ℕ) (pieces : List Piece) (i : ℕ) (d : Piece) → i < length pieces
    → ForEach (so_far media id bandwidth (take i pieces)) IsSegment → ForEach (texts_of media id bandwidth (get_or pieces i d)) IsSegment
    → ForEach (so_far media id bandwidth (take (i + 1) pieces)) IsSegment
segment_next media id bandwidth pieces i d inside before here =
    subst (λ ps. ForEach (so_far media id bandwidth ps) IsSegment) (sym (take_more pieces i d inside))
    (segment_more media id bandwidth (take i pieces) (get_or pieces i d) before here)

-- Texts without control characters.
use Rattle.std.proofs.Common.{◌≡◌, ℕ, ◌<◌, ◌&&◌, ◌||◌, Bool, true, false, List, [], ◌∷◌, ◌++◌, eqb, refl, arith}
use Rattle.std.proofs.lemmas.Bool.{and_parts, or_from, or_parts}
use Rattle.std.proofs.{lemmas.Bool.Decides.nat_tests, lemmas.Str.{IsUtf8-append, IsUtf8-from_ascii}}
use Rattle.std.proofs.lemmas.Str.Ascii.{IsAscii-cons, IsAscii-nil}
use Rattle.std.specs.{List.list_all, Prelude.{nat_le, nat_lt}, Str.IsAscii}
use Rattle.track_hints.specs.Labels.{begins_with_control, has_control, is_high_control}
use Rattle.laws_of_playlists.specs.ReadLines.{IsPlain, is_printable}

printable_begins : (b : ℕ) (high : Bool) → is_printable b ≡ true → (nat_lt b 32 || (eqb b 127 || eqb b 194 && high)) ≡ false
printable_begins b high printable = grind (arith, nat_tests)

-- a control character of two bytes doesn't end in a byte of ASCII
low_next : (b c : ℕ) (high : Bool) → c < 128 → (nat_lt b 32 || (eqb b 127 || eqb b 194 && high)) ≡ false
    → (nat_lt b 32 || (eqb b 127 || eqb b 194 && (nat_le 128 c && nat_le c 159))) ≡ false
low_next b c high less e = grind (arith, nat_tests)

free_ascii : (text : List ℕ) → list_all is_printable text ≡ true → has_control text ≡ false
free_ascii [] all = refl
free_ascii (b ∷ bs) all = let parts = and_parts (is_printable b) (list_all is_printable bs) all in
    or_from (begins_with_control b bs) (has_control bs) (printable_begins b (is_high_control bs) parts.0) (free_ascii bs parts.1)

free_append : (xs : List ℕ) (c : ℕ) (ys : List ℕ) → c < 128 → has_control xs ≡ false → has_control (c ∷ ys) ≡ false
    → has_control (xs ++ c ∷ ys) ≡ false
free_append [] c ys less free more = more
free_append (b ∷ []) c ys less free more = let parts = or_parts (begins_with_control b []) false free in
    or_from (begins_with_control b (c ∷ ys)) (has_control (c ∷ ys)) (low_next b c false less parts.0) more
free_append (b ∷ (d ∷ xs)) c ys less free more = let parts = or_parts (begins_with_control b (d ∷ xs)) (has_control (d ∷ xs)) free in
    or_from (begins_with_control b (d ∷ xs)) (has_control ((d ∷ xs) ++ c ∷ ys)) parts.0 (free_append (d ∷ xs) c ys less parts.1 more)

ascii : (text : List ℕ) → list_all is_printable text ≡ true → IsAscii text
ascii [] all = IsAscii-nil
ascii (b ∷ bs) all = let parts = and_parts (is_printable b) (list_all is_printable bs) all in
    IsAscii-cons b bs (below b parts.0) (ascii bs parts.1)
  where
    below : (b : ℕ) → is_printable b ≡ true → b < 128
    below b printable = grind (arith, nat_tests)

pub plain_ascii : (text : List ℕ) → list_all is_printable text ≡ true → IsPlain text
plain_ascii text all = record { utf8 = IsUtf8-from_ascii text (ascii text all); free = free_ascii text all }

pub plain_append : (xs : List ℕ) (c : ℕ) (ys : List ℕ) → c < 128 → IsPlain xs → IsPlain (c ∷ ys) → IsPlain (xs ++ c ∷ ys)
plain_append xs c ys less first second = record {
  utf8 = IsUtf8-append xs (c ∷ ys) first.utf8 second.utf8;
  free = free_append xs c ys less first.free second.free;
}

-- behind printed characters
free_behind : (xs ys : List ℕ) → list_all is_printable xs ≡ true → has_control ys ≡ false → has_control (xs ++ ys) ≡ false
free_behind [] ys all free = free
free_behind (b ∷ xs) ys all free = let parts = and_parts (is_printable b) (list_all is_printable xs) all in
    or_from (begins_with_control b (xs ++ ys)) (has_control (xs ++ ys)) (printable_begins b (is_high_control (xs ++ ys)) parts.0)
    (free_behind xs ys parts.1 free)

pub plain_behind : (xs ys : List ℕ) → list_all is_printable xs ≡ true → IsPlain ys → IsPlain (xs ++ ys)
plain_behind xs ys all plain = record {
  utf8 = IsUtf8-append xs ys (plain_ascii xs all).utf8 plain.utf8;
  free = free_behind xs ys all plain.free;
}

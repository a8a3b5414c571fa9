-- Equal texts, and one text more.
use Rattle.std.proofs.Common.{◌≡◌, ℕ, Bool, true, false, ◌||◌, List, [], ◌∷◌, ◌++◌, Decides, refl, sym, ◌∙◌, ap, bytes_eq}
use Rattle.std.proofs.{lemmas.Slice.Eq.bytes_eq-Decides, lemmas.List.Folds.list_any-append}
use Rattle.bridge_io.specs.Texts.{is_among}

pub same_bytes : (a b : List ℕ) → bytes_eq a b ≡ true → a ≡ b
same_bytes a b = (bytes_eq-Decides a b).0

pub equals_itself : (a : List ℕ) → bytes_eq a a ≡ true
equals_itself a = (bytes_eq-Decides a a).1 refl

same_tests : (a b : List ℕ) (p q : Bool) → Decides p (a ≡ b) → Decides q (b ≡ a) → p ≡ q
same_tests a b true q one other = sym (other.1 (sym (one.0 refl)))
same_tests a b false true one other = one.1 (sym (other.0 refl))
same_tests a b false false one other = refl

pub bytes_eq_sym : (a b : List ℕ) → bytes_eq a b ≡ bytes_eq b a
bytes_eq_sym a b = same_tests a b (bytes_eq a b) (bytes_eq b a) (bytes_eq-Decides a b) (bytes_eq-Decides b a)

pub or_nothing : (a : Bool) → (a || false) ≡ a
or_nothing true = refl
or_nothing false = refl

pub among_more : (text last : List ℕ) (texts : List (List ℕ)) → is_among text (texts ++ last ∷ [])
    ≡ (is_among text texts || bytes_eq text last)
among_more text last texts = list_any-append (bytes_eq text) texts (last ∷ [])
    ∙ ap (λ b. is_among text texts || b) (or_nothing (bytes_eq text last))

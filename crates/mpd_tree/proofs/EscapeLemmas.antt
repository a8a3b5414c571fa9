-- How texts are escaped, character by character.
use Rattle.std.proofs.Common.{◌≡◌, ◌≢◌, ℕ, length, ◌≤◌, false, ◌==◌, List, [], ◌∷◌, ◌++◌, codes, refl, sym, ◌∙◌, ap, arith}
use Rattle.std.proofs.{lemmas.List.append_assoc, lemmas.Bool.Decides.nat_tests}
use Rattle.mpd_tree.specs.Escapes.{escape_of, escape_all}
use lib.Utf8.{encode}

pub escape-append : (a b : List ℕ) → escape_all (a ++ b) ≡ escape_all a ++ escape_all b
unfolding escape_all
escape-append [] b = refl
escape-append (x ∷ a) b = ap (λ t. escape_of x ++ t) (escape-append a b) ∙ sym (append_assoc (escape_of x) (escape_all a) (escape_all b))

-- a byte that is none of the four stays
pub byte_stays : (b : ℕ) → (b == 38) ≡ false → (b == 60) ≡ false → (b == 62) ≡ false → (b == 34) ≡ false → escape_of b ≡ b ∷ []
byte_stays b amp less greater quote = grind arith

-- at the end nothing is left
pub nothing_left : (text : List ℕ) → length text ≡ 0 → escape_all text ≡ []
unfolding escape_all
nothing_left [] e = refl
nothing_left (x ∷ rest) e = absurd (omega arith)

pub escaped_four : (c : ℕ) → (c ≡ 38 → escape_all (encode c) ≡ codes "&amp;") × (c ≡ 60 → escape_all (encode c) ≡ codes "&lt;")
    × (c ≡ 62 → escape_all (encode c) ≡ codes "&gt;") × (c ≡ 34 → escape_all (encode c) ≡ codes "&quot;")
unfolding escape_all encode
escaped_four c = (λ e. rw e refl, λ e. rw e refl, λ e. rw e refl, λ e. rw e refl)

high_stays : (b : ℕ) → 128 ≤ b → escape_of b ≡ b ∷ []
high_stays b high = grind arith

-- a character that is none of the four stays
pub character_stays : (c : ℕ) → c ≢ 38 → c ≢ 60 → c ≢ 62 → c ≢ 34 → escape_all (encode c) ≡ encode c
unfolding encode escape_all
character_stays c amp less greater quote = grind (arith, nat_tests, high_stays)

pub ruleset escapes = (escaped_four, character_stays)

use Rattle.mpd_values.proofs.number.read_signed.Goals as goal
use Rattle.std.proofs.{Common.{◌≡◌, ◌≢◌, ℕ, ◌==◌, Bool, true, false, List, [], ◌∷◌, ◌++◌, refl, lit<, encode_utf8}, lemmas.Bool.eqb-true}
use Rattle.std.proofs.lemmas.Str.{encode_ascii}
use Rattle.mpd_values.specs.Numbers.{has_minus, signed_64_of}

by_bool : {A : Type 0} (b : Bool) → (b ≡ true → A) → (b ≡ false → A) → A
by_bool true at_true at_false = at_true refl
by_bool false at_true at_false = at_false refl

no_minus : (text : List ℕ) → ((rest : List ℕ) → text ≢ encode_utf8 45 ++ rest) → has_minus text ≡ false
no_minus [] none = refl
no_minus (b ∷ bs) none = by_bool (b == 45) (λ minus. absurd (none bs (rw (encode_ascii 45 (lit< tt), eqb-true b 45 minus) refl)))
    (λ other. other)

pub returns-in-None : goal.returns-in-None
unfolding signed_64_of
returns-in-None c =
    let none = no_minus c.trimmed-text.result.now c.in-None.ensures.cases in
    rw (c.read_positive.ensures, ← c.trimmed-text.ensures, none) refl

-- Comments and the declaration are read as the grammar says.
use Rattle.std.proofs.{Common.{ℕ, suc, ◌≤◌, false, inl, List, [], ◌∷◌, length, drop, refl, ap, arith, length-drop}, lemmas.Bool.eqb-true}
use Rattle.std.proofs.lemmas.Bool.Decides.{nat_tests}
use Rattle.std.specs.Prelude.{◌&&◌, ◌==◌}
use Rattle.mpd_tree.specs.{Characters.is_white, Runs.common, Positions.Position}
use Rattle.mpd_tree.specs.Grammar.{greater_than, behind_dashes, behind_two, second_dash, comment, declared, word, declaration}
use Rattle.mpd_tree.proofs.Produced.{IsRead, rest_of, done, no, refuses, also, open_too, by_test, at_test, next_read, weaker, beyond}

pub greater_read : (bytes : List ℕ) → IsRead rest_of (greater_than bytes) (suc (length bytes))
unfolding greater_than
greater_read [] = no
greater_read (b ∷ bs) = at_test (b == 62) (λ t. also done) (λ f. refuses)

-- ---- comments

dashes_read : (bytes : List ℕ) → IsRead rest_of (behind_dashes bytes) (suc (length bytes))
unfolding behind_dashes greater_than
dashes_read [] = no
dashes_read (b ∷ bs) = at_test (b == 45) (λ t. also (greater_read bs)) (λ f. open_too (inl refl) (greater_read (b ∷ bs)))

two_read : (one other : ℕ) (bytes : List ℕ) → IsRead rest_of (behind_two one other bytes) (suc (length bytes))
unfolding behind_two
two_read one other [] = no
two_read one other (b ∷ []) = also (by_test (b == one && false) (λ t. absurd (grind arith)) (λ f. no))
two_read one other (b ∷ c ∷ cs) = also (by_test (b == one && c == other) (λ t. also done) (λ f. two_read one other (c ∷ cs)))

second_dash_read : (bytes : List ℕ) → IsRead rest_of (second_dash bytes) (suc (length bytes))
unfolding second_dash
second_dash_read [] = no
second_dash_read (b ∷ bs) = at_test (b == 45) (λ t. also (next_read (two_read 45 45 bs) (λ rest is. dashes_read rest))) (λ f. refuses)

pub comment_read : (left : ℕ) (bytes : List ℕ) → IsRead rest_of (comment left bytes) (suc (length bytes))
unfolding comment
comment_read left [] = no
comment_read left (b ∷ bs) = at_test (b == 45) (λ t. also (second_dash_read bs)) (λ f. refuses)

-- ---- declarations

declared_read : (left : ℕ) (bytes : List ℕ) → IsRead rest_of (declared left bytes) (suc (length bytes))
unfolding declared
declared_read left [] = no
declared_read left (b ∷ bs) = at_test (is_white b) (λ t. also (two_read 63 62 bs)) (λ f. refuses)

common_less : (word bytes : List ℕ) → common word bytes ≤ length bytes
common_less [] bytes = omega arith
common_less (a ∷ more) [] = omega arith
common_less (a ∷ more) (b ∷ bs) = grind (arith, nat_tests, common_less more bs)

pub declaration_read : (left : ℕ) (bytes : List ℕ) → IsRead rest_of (declaration left bytes) (suc (length bytes))
unfolding declaration
declaration_read left bytes =
    let n = common word bytes in
    let most = common_less word bytes in
    let here = length-drop n bytes in
    weaker (omega (arith, here)) (beyond {bound = suc (length (drop n bytes))}
    (λ p is. omega (arith, most, here, is.is_word, length-drop is.count bytes, ap (λ (s : Position). length s.rest) is.is_there))
    (by_test (n == 3) (λ t. weaker (omega (arith, eqb-true n 3 t, here, length-drop 3 bytes)) (declared_read left (drop 3 bytes)))
    (λ f. no)))

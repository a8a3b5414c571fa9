-- A value whose first marked byte is its quote reads as it stands.
use Rattle.std.proofs.Common.{◌≡◌, ℕ, suc, ◌+◌, true, eqb, List, [], ◌∷◌, ◌-◌, ◌≤◌, ◌∙◌, ◌⊎◌, ap, sym, length, take, drop, get_or, Ok}
use Rattle.std.proofs.{Common.{refl, arith}, lemmas.List.take_all, lemmas.Bool.Decides.nat_tests}
use Rattle.mpd_text.specs.Rests.{IsBehind, IsEnd}
use Rattle.mpd_tree.specs.{Marked.marked_in_value, Runs.plain_at, Productions.times, Grammar.{marked, value}}
use Rattle.mpd_text.proofs.Rests.{behind}

value_plain : (q : ℕ) (bytes more : List ℕ) → (plain_at (marked_in_value q) bytes).1 ≡ q ∷ more
    → (value q bytes).read ≡ Ok ((plain_at (marked_in_value q) bytes).0, more)
unfolding value times marked
value_plain q [] more e = cc
value_plain q (b ∷ bs) more e =
    let self : eqb q q ≡ true = grind (arith, nat_tests) in
    let most : length (b ∷ bs) + 1 ≡ suc (length (b ∷ bs)) = omega arith in
    rw (most, e, self) refl

pub value_first : (q : ℕ) (bytes rest : List ℕ) → rest ≡ (plain_at (marked_in_value q) bytes).1 → 1 ≤ length rest → get_or rest 0 0 ≡ q
    → (value q bytes).read ≡ Ok ((plain_at (marked_in_value q) bytes).0, take (length rest - 1) (drop 1 rest))
value_first q bytes [] is one first = absurd (omega (arith, one))
value_first q bytes (b ∷ more) is one first =
    let all : take (length (b ∷ more) - 1) more ≡ more = take_all (length (b ∷ more) - 1) more (omega arith) in
    rw all (value_plain q bytes more (sym is ∙ ap (λ (n : ℕ). n ∷ more) first))

-- behind the first byte
pub first_behind : (s rest : List ℕ) (q : ℕ) → (q ≡ 34) ⊎ (q ≡ 39) → IsEnd s rest → 1 ≤ length rest → get_or rest 0 0 ≡ q
    → IsBehind s (take (length rest - 1) (drop 1 rest))
first_behind s [] q is e one first = absurd (omega (arith, one))
first_behind s (b ∷ more) q is e one first =
    let all : take (length (b ∷ more) - 1) more ≡ more = take_all (length (b ∷ more) - 1) more (omega arith) in
    rw all (behind s b more (grind (arith, is, first)) e)

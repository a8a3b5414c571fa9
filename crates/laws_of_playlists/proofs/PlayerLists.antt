-- Members of lists.
use Rattle.std.proofs.Common.{◌≡◌, ℕ, ◌+◌, ◌<◌, ◌≤◌, Bool, true, false, cond, eqb, List, [], ◌∷◌, ◌++◌, map, flat_map, count_by, Option}
use Rattle.std.proofs.Common.{Some}
use Rattle.std.proofs.{Common.{option_to_list, refl, ap, arith, inl, inr}, lemmas.Bool.{eq-eqb, or_cases, or_parts}}
use Rattle.std.proofs.lemmas.List.Sums.{sum_by-append, sum_by-cons}
use Rattle.std.specs.List.{AllByRecursion, list_any}
use Rattle.laws_of_playlists.specs.Players.{IsAmong}

pub among_front : {X : Type 0} (x : X) (xs ys : List X) → IsAmong x xs → IsAmong x (xs ++ ys)
among_front x [] ys is = absurd is
among_front x (y ∷ xs) ys (inl is) = inl is
among_front x (y ∷ xs) ys (inr later) = inr (among_front x xs ys later)

pub among_back : {X : Type 0} (x : X) (xs ys : List X) → IsAmong x ys → IsAmong x (xs ++ ys)
among_back x [] ys is = is
among_back x (y ∷ xs) ys is = inr (among_back x xs ys is)

pub among_map : {X Y : Type 0} (f : X → Y) (x : X) (xs : List X) → IsAmong x xs → IsAmong (f x) (map f xs)
among_map f x [] is = absurd is
among_map f x (y ∷ xs) (inl is) = inl (ap f is)
among_map f x (y ∷ xs) (inr later) = inr (among_map f x xs later)

pub among_flat : {X Y : Type 0} (f : X → List Y) (x : X) (xs : List X) (y : Y) → IsAmong x xs → IsAmong y (f x) → IsAmong y (flat_map f xs)
among_flat f x [] y is there = absurd is
among_flat f x (z ∷ xs) y (inl is) there = among_front y (f z) (flat_map f xs) (rw is there)
among_flat f x (z ∷ xs) y (inr later) there = among_back y (f z) (flat_map f xs) (among_flat f x xs y later there)

pub among_present : {X : Type 0} (x : X) (xs : List (Option X)) → IsAmong (Some x) xs → IsAmong x (flat_map option_to_list xs)
among_present x xs is = among_flat option_to_list (Some x) xs x is (inl refl)

pub among_passing : {X Y : Type 0} (q : X → Bool) (f : X → Y) (y : Y) → ((x : X) → q x ≡ true → f x ≡ y) → (xs : List X)
    → list_any q xs ≡ true → IsAmong y (map f xs)
among_passing q f y passes [] e = absurd (cc)
among_passing q f y passes (x ∷ xs) e = elim (or_cases (q x) (list_any q xs) e) [
  | inl here ↦ inl (passes x here)
  | inr later ↦ inr (among_passing q f y passes xs later)
]

-- ---- how many members pass a test

pub count_cons : {X : Type 0} (test : X → Bool) (x : X) (xs : List X) → count_by test (x ∷ xs) ≡ cond (test x) 1 0 + count_by test xs
count_cons test x xs = sum_by-cons (λ y. cond (test y) 1 0) x xs

pub count_append : {X : Type 0} (test : X → Bool) (xs ys : List X) → count_by test (xs ++ ys) ≡ count_by test xs + count_by test ys
count_append test xs ys = sum_by-append (λ y. cond (test y) 1 0) xs ys

pub count_pushed : {X : Type 0} (test : X → Bool) (xs : List X) (x : X)
    → count_by test (xs ++ x ∷ []) ≡ count_by test xs + cond (test x) 1 0
count_pushed test xs x = omega (arith, count_append test xs (x ∷ []), count_cons test x [])

pub count_any : {X : Type 0} (test : X → Bool) (xs : List X) → list_any test xs ≡ false → count_by test xs ≡ 0
count_any test [] e = refl
count_any test (x ∷ xs) e = let parts = or_parts (test x) (list_any test xs) e in
    omega (arith, count_cons test x xs, ap {B = ℕ} (λ b. cond b 1 0) parts.0, count_any test xs parts.1)

pub count_none : {X : Type 0} (test : X → Bool) (xs : List X) → AllByRecursion (λ x. test x ≡ false) xs → count_by test xs ≡ 0
count_none test [] all = refl
count_none test (x ∷ xs) all =
    omega (arith, count_cons test x xs, ap {B = ℕ} (λ b. cond b 1 0) all.0, count_none test xs all.1)

pub count_map : {X Y : Type 0} (test : Y → Bool) (f : X → Y) (xs : List X) → count_by test (map f xs) ≡ count_by (λ x. test (f x)) xs
count_map test f [] = refl
count_map test f (x ∷ xs) =
    omega (arith, count_cons test (f x) (map f xs), count_cons (λ y. test (f y)) x xs, count_map test f xs)

pub count_less : {X : Type 0} (p q : X → Bool) (xs : List X) → AllByRecursion (λ x. p x ≡ true → q x ≡ true) xs
    → count_by p xs ≤ count_by q xs
count_less p q [] all = omega arith
count_less p q (x ∷ xs) all = omega (
  arith,
  count_cons p x xs,
  count_cons q x xs,
  one (p x) (q x) all.0,
  count_less p q xs all.1,
)
  where
    one : (a b : Bool) → (a ≡ true → b ≡ true) → cond {A = ℕ} a 1 0 ≤ cond {A = ℕ} b 1 0
    one true b wider = rw (wider refl) (omega arith)
    one false true wider = omega arith
    one false false wider = omega arith

pub count_among : (m : ℕ) (places : List ℕ) → IsAmong m places → 0 < count_by (λ p. eqb p m) places
count_among m [] is = absurd is
count_among m (p ∷ places) (inl is) =
    omega (arith, count_cons (λ p. eqb p m) p places, ap {B = ℕ} (λ b. cond b 1 0) (eq-eqb p m is))
count_among m (p ∷ places) (inr later) = omega (arith, count_cons (λ p. eqb p m) p places, count_among m places later)

-- The order of kinds, and places that don't fall.
use Rattle.std.proofs.Common.{◌≡◌, ℕ, zero, suc, ◌≤◌, Bool, true, false, List, [], ◌∷◌, ◌++◌, All, map, filter, refl, ◌∙◌, ap, inl, inr}
use Rattle.std.proofs.{Common.arith, lemmas.Bool.cases_Bool, lemmas.List.{append-nil, map-append}}
use Rattle.std.proofs.lemmas.List.Elements.{All-append, All-map, All-head, All-tail, filter-append}
use Rattle.std.specs.List.Sorted.{IsNonDecreasingBy}
use Rattle.bridge_io.specs.{declared.media.Kind.Kind, declared.media.Kind.TheVariants.{Video, Audio, Text}}
use Rattle.presentation.specs.Order.{by_kind, is_of}

-- ---- kinds

map_kept : {X Y : Type 0} (f : X → Y) (p : Y → Bool) (xs : List X) → map f (filter (λ x. p (f x)) xs) ≡ filter p (map f xs)
map_kept f p [] = refl
map_kept f p (x ∷ xs) = elim (cases_Bool (p (f x))) [
  | inl kept ↦ rw kept (ap (λ ys. f x ∷ ys) (map_kept f p xs))
  | inr gone ↦ rw gone (map_kept f p xs)
]

module _ {X : Type 0} (kind : X → Kind) where
  abbrev of : Kind → List X → List X
  of k xs = filter (λ x. is_of k (kind x)) xs

  pub kept_twice : (k : Kind) (xs : List X) → of k (of k xs) ≡ of k xs
  kept_twice k [] = refl
  kept_twice k (x ∷ xs) = elim (cases_Bool (is_of k (kind x))) [
    | inl here ↦ simp here (ap (λ ys. x ∷ ys) (kept_twice k xs))
    | inr gone ↦ simp gone (kept_twice k xs)
  ]

  abbrev AreApart : (one other : Kind) → Type 0
  AreApart one other = (k : Kind) → is_of other k ≡ true → is_of one k ≡ false

  none_kept : (one other : Kind) → AreApart one other → (xs : List X) → of one (of other xs) ≡ []
  none_kept one other apart [] = refl
  none_kept one other apart (x ∷ xs) = elim (cases_Bool (is_of other (kind x))) [
    | inl here ↦ simp (here, apart (kind x) here) (none_kept one other apart xs)
    | inr gone ↦ simp gone (none_kept one other apart xs)
  ]

  three_kept : (k : Kind) (xs : List X) → of k (by_kind kind xs) ≡ of k (of Video xs) ++ (of k (of Audio xs) ++ of k (of Text xs))
  three_kept k xs =
      filter-append (λ x. is_of k (kind x)) (of Video xs) (of Audio xs ++ of Text xs)
      ∙ ap (λ ys. of k (of Video xs) ++ ys) (filter-append (λ x. is_of k (kind x)) (of Audio xs) (of Text xs))

  pub kept_in_order : (k : Kind) (xs : List X) → of k (by_kind kind xs) ≡ of k xs
  kept_in_order Video xs =
      three_kept Video xs ∙ rw (
        kept_twice Video xs,
        none_kept Video Audio (λ k. elim k as (λ k. is_of Audio k ≡ true → is_of Video k ≡ false) [
          | Video ↦ λ h. absurd (cc)
          | Audio ↦
              λ _. refl
          | Text ↦ λ _. refl
        ]) xs,
        none_kept Video Text (λ k. elim k as (λ k. is_of Text k ≡ true → is_of Video k ≡ false) [
          | Video ↦ λ h. absurd (cc)
          | Audio ↦
              λ _. refl
          | Text ↦ λ _. refl
        ]) xs,
      ) (append-nil (of Video xs))
  kept_in_order Audio xs =
      three_kept Audio xs ∙ rw (
        kept_twice Audio xs,
        none_kept Audio Video (λ k. elim k as (λ k. is_of Video k ≡ true → is_of Audio k ≡ false) [
          | Video ↦ λ _. refl
          | Audio ↦
              λ h. absurd (cc)
          | Text ↦ λ _. refl
        ]) xs,
        none_kept Audio Text (λ k. elim k as (λ k. is_of Text k ≡ true → is_of Audio k ≡ false) [
          | Video ↦ λ _. refl
          | Audio ↦
              λ h. absurd (cc)
          | Text ↦ λ _. refl
        ]) xs,
      ) (append-nil (of Audio xs))
  kept_in_order Text xs =
      three_kept Text xs ∙ rw (
        kept_twice Text xs,
        none_kept Text Video (λ k. elim k as (λ k. is_of Video k ≡ true → is_of Text k ≡ false) [
          | Video ↦ λ _. refl
          | Audio ↦
              λ _. refl
          | Text ↦ λ h. absurd (cc)
        ]) xs,
        none_kept Text Audio (λ k. elim k as (λ k. is_of Audio k ≡ true → is_of Text k ≡ false) [
          | Video ↦ λ _. refl
          | Audio ↦
              λ _. refl
          | Text ↦ λ h. absurd (cc)
        ]) xs,
      ) refl

  pub in_order_twice : (xs : List X) → by_kind kind xs ≡ by_kind kind (by_kind kind xs)
  in_order_twice xs = rw (kept_in_order Video xs, kept_in_order Audio xs, kept_in_order Text xs) refl

-- what is made of each keeps its kind
pub map_in_order : {X Y : Type 0} (kind : Y → Kind) (f : X → Y) (xs : List X)
    → map f (by_kind (λ x. kind (f x)) xs) ≡ by_kind kind (map f xs)
map_in_order kind f xs =
    map-append f (filter (λ x. is_of Video (kind (f x))) xs) (filter (λ x. is_of Audio (kind (f x))) xs
    ++ filter (λ x. is_of Text (kind (f x))) xs)
    ∙ ap (λ ys. map f (filter (λ x. is_of Video (kind (f x))) xs) ++ ys)
    (map-append f (filter (λ x. is_of Audio (kind (f x))) xs) (filter (λ x. is_of Text (kind (f x))) xs))
    ∙ rw (
      map_kept f (λ y. is_of Video (kind y)) xs,
      map_kept f (λ y. is_of Audio (kind y)) xs,
      map_kept f (λ y. is_of Text (kind y)) xs,
    ) refl

-- ---- places that don't fall

abbrev pub Rises : {X : Type 0} → (X → ℕ) → List X → Type 0
Rises n [] = Unit {0}
Rises n (x ∷ xs) = All (λ y. n x ≤ n y) xs × Rises n xs

pub Rises-map : {X Y : Type 0} (n : Y → ℕ) (f : X → Y) (xs : List X) → Rises (λ x. n (f x)) xs → Rises n (map f xs)
Rises-map n f [] rises = tt
Rises-map n f (x ∷ xs) (first, rises) = (All-map (λ y. n (f x) ≤ n y) f xs first, Rises-map n f xs rises)

-- some at one place before others from it on
pub Rises-before : {X : Type 0} (n : X → ℕ) (place : ℕ) (xs ys : List X) → All (λ x. n x ≡ place) xs → All (λ y. place ≤ n y) ys
    → Rises n ys → Rises n (xs ++ ys)
Rises-before n place [] ys here later rises = rises
Rises-before n place (x ∷ xs) ys here later rises =
    let first = All-head (λ x. n x ≡ place) x xs here in
    let rest = All-tail (λ x. n x ≡ place) x xs here in (
      All-append (λ y. n x ≤ n y) xs ys (λ k d within. let same = rest k d within in
          omega arith) (λ k d within. let after = later k d within in omega arith),
      Rises-before n place xs ys rest later rises,
    )

pub non_decreasing : {X : Type 0} (n : X → ℕ) (xs : List X) → Rises n xs → IsNonDecreasingBy n xs
non_decreasing n [] rises i j d le within = absurd (omega arith)
non_decreasing n (x ∷ xs) (first, rises) zero zero d le within = omega arith
non_decreasing n (x ∷ xs) (first, rises) zero (suc j) d le within = first j d (omega arith)
non_decreasing n (x ∷ xs) (first, rises) (suc i) zero d le within = absurd (omega arith)
non_decreasing n (x ∷ xs) (first, rises) (suc i) (suc j) d le within = non_decreasing n xs rises i j d (omega arith) (omega arith)

-- Lists, and where something of them stands.
use Rattle.std.proofs.Common.{◌≡◌, ℕ, ◌<◌, ◌≤◌, Bool, true, false, ◌||◌, List, [], ◌∷◌, ◌++◌, ◌⊎◌, length, map, get_or, position, Option}
use Rattle.std.proofs.{Common.{Some, None, refl, sym, ◌∙◌, ap, arith, inl, inr}, lemmas.Bool.{cases_lt, lt-ltb, or_cases, or_left}}
use Rattle.std.proofs.{lemmas.Bool.{or_right, true≢false}, lemmas.Bool.Decides.Decides-like, lemmas.List.length-map}
use Rattle.std.proofs.{lemmas.List.Folds.{Any-from_list_any, list_any-append}, lemmas.List.Sums.{fails_before_first, passes_at_first}}
use Rattle.std.specs.{Bool.Decides, List.{AllByRecursion, AllZip, list_any, position_or_len}, Option.option_eq}

pub all_append : {X : Type 0} (P : X → Type 0) (xs ys : List X) → AllByRecursion P xs → AllByRecursion P ys → AllByRecursion P (xs ++ ys)
all_append P [] ys all more = more
all_append P (x ∷ xs) ys all more = (all.0, all_append P xs ys all.1 more)

pub all_weaker : {X : Type 0} (P Q : X → Type 0) → ((x : X) → P x → Q x) → (xs : List X) → AllByRecursion P xs → AllByRecursion Q xs
all_weaker P Q weaker [] all = tt
all_weaker P Q weaker (x ∷ xs) all = (weaker x all.0, all_weaker P Q weaker xs all.1)

pub all_map : {X Y : Type 0} (P : Y → Type 0) (f : X → Y) (xs : List X) → AllByRecursion (λ x. P (f x)) xs → AllByRecursion P (map f xs)
all_map P f [] all = tt
all_map P f (x ∷ xs) all = (all.0, all_map P f xs all.1)

pub any_pushed : {X : Type 0} (q : X → Bool) (xs : List X) (x : X) → q x ≡ true → list_any q (xs ++ x ∷ []) ≡ true
any_pushed q xs x e = rw (list_any-append q xs (x ∷ []), e) (or_right (list_any q xs) true refl)

pub any_kept : {X : Type 0} (q : X → Bool) (xs : List X) (x : X) → list_any q xs ≡ true → list_any q (xs ++ x ∷ []) ≡ true
any_kept q xs x e = rw (list_any-append q xs (x ∷ [])) (or_left (list_any q xs) (q x || false) e)

pub any_wider : {X : Type 0} (p q : X → Bool) → ((x : X) → p x ≡ true → q x ≡ true) → (xs : List X) → list_any p xs ≡ true
    → list_any q xs ≡ true
any_wider p q wider [] e = absurd (cc)
any_wider p q wider (x ∷ xs) e = elim (or_cases (p x) (list_any p xs) e) [
  | inl here ↦ or_left (q x) (list_any q xs) (wider x here)
  | inr later ↦ or_right (q x) (list_any q xs) (any_wider p q wider xs later)
]

pub any_mapped : {X Y : Type 0} (q : X → Bool) (p : Y → Bool) (f : X → Y) → ((x : X) → q x ≡ true → p (f x) ≡ true) → (xs : List X)
    → list_any q xs ≡ true → list_any p (map f xs) ≡ true
any_mapped q p f passes [] e = absurd (cc)
any_mapped q p f passes (x ∷ xs) e = elim (or_cases (q x) (list_any q xs) e) [
  | inl here ↦ or_left (p (f x)) (list_any p (map f xs)) (passes x here)
  | inr later ↦ or_right (p (f x)) (list_any p (map f xs)) (any_mapped q p f passes xs later)
]

pub options_decide : {A : Type 0} (E : A → A → Bool) → ((a b : A) → Decides (E a b) (a ≡ b)) → (x y : Option A)
    → Decides (option_eq E x y) (x ≡ y)
options_decide E each None None = (λ h. refl, λ e. refl)
options_decide E each None (Some y) = (λ h. absurd (cc), λ e. absurd (cc))
options_decide E each (Some x) None = (λ h. absurd (cc), λ e. absurd (cc))
options_decide E each (Some x) (Some y) = Decides-like (E x y) (λ same. ap Some same) (λ e. (cc)) (each x y)

-- the first place at which a test passes
pub record IsPlaced {X : Type 0} (q : X → Bool) (xs : List X) : Type 0 where
  pub place : ℕ
  pub is : position q xs ≡ Some place
  pub within : place < length xs
  pub passes : (d : X) → q (get_or xs place d) ≡ true

pub placed : {X : Type 0} (q : X → Bool) (xs : List X) → list_any q xs ≡ true → IsPlaced q xs
placed q xs e = of_case (cases_lt (position_or_len q xs) (length xs))
  where
    of_case : (position_or_len q xs < length xs) ⊎ (length xs ≤ position_or_len q xs) → IsPlaced q xs
    of_case (inl less) = record {
      place = position_or_len q xs;
      is = rw (lt-ltb (position_or_len q xs) (length xs) less) refl;
      within = less;
      passes = λ d. passes_at_first q xs d less;
    }
    of_case (inr most) = let any = Any-from_list_any q xs e in
        absurd (true≢false (sym any.4 ∙ ap q (sym any.3) ∙ fails_before_first q xs any.0 any.1 (omega (arith, any.2))))

-- the first place in a list's image
pub placed_alike : {X Y : Type 0} (p : Y → Bool) (q : X → Bool) (f : X → Y) (xs : List X) → AllByRecursion (λ x. p (f x) ≡ q x) xs
    → position p (map f xs) ≡ position q xs
placed_alike p q f xs all = rw (sizes xs all, length-map xs f) refl
  where
    sizes : (xs : List _) → AllByRecursion (λ x. p (f x) ≡ q x) xs → position_or_len p (map f xs) ≡ position_or_len q xs
    sizes [] all = refl
    sizes (x ∷ xs) all = rw (all.0, sizes xs all.1) refl

pub zip_parts : {A B : Type 0} (R : A → B → Type 0) (xs ys : List A) (zs : List B) → AllZip R (xs ++ ys) zs
    → (front : List B) × ((rest : List B) × ((zs ≡ front ++ rest) × (AllZip R xs front × AllZip R ys rest)))
zip_parts R [] ys zs all = ([], (zs, (refl, (tt, all))))
zip_parts R (x ∷ xs) ys [] all = absurd all
zip_parts R (x ∷ xs) ys (z ∷ zs) all = let more = zip_parts R xs ys zs all.1 in
    (z ∷ more.0, (more.1.0, (ap (λ t. z ∷ t) more.1.1.0, ((all.0, more.1.1.1.0), more.1.1.1.1))))

pub all_of : {X : Type 0} (P : X → Type 0) → ((x : X) → P x) → (xs : List X) → AllByRecursion P xs
all_of P each [] = tt
all_of P each (x ∷ xs) = (each x, all_of P each xs)

-- Members of lists by their places.
use Rattle.std.proofs.Common.{◌≡◌, ℕ, zero, suc, ◌+◌, ◌*◌, ◌<◌, cond, Bool, true, false, List, [], ◌∷◌, ◌++◌, filter, flat_map, length}
use Rattle.std.proofs.{Common.{map, slice_get, All, Some, refl, sym, ◌∙◌, ap, subst, arith, zero-add}, lemmas.List.map-append}
use Rattle.std.proofs.{lemmas.List.Elements.{All-head, All-rest}, lemmas.Option.{get_or_from_slice_get, slice_get_within}}
use Rattle.bridge_io.specs.{declared.media.Kind.Kind, declared.media.Kind.TheVariants.{Video, Audio, Text}}
use Rattle.presentation.specs.Order.{by_kind, is_of}

pub same_members : {X : Type 0} (xs ys : List X) → length xs ≡ length ys → ((k : ℕ) → k < length xs → slice_get xs k ≡ slice_get ys k)
    → xs ≡ ys
same_members [] [] same each = refl
same_members [] (y ∷ ys) same each = absurd (omega (arith, same))
same_members (x ∷ xs) [] same each = absurd (omega (arith, same))
same_members (x ∷ xs) (y ∷ ys) same each =
    let first : Some x ≡ Some y = each 0 (omega arith) in
    let head : x ≡ y = cc in
    ap (λ z. z ∷ xs) head ∙ ap (λ zs. y ∷ zs) (same_members xs ys (omega (arith, same)) (λ k below. each (suc k) (omega (arith, below))))

get_left : {X : Type 0} (xs ys : List X) (k : ℕ) → k < length xs → slice_get (xs ++ ys) k ≡ slice_get xs k
get_left [] ys k below = absurd (omega (arith, below))
get_left (x ∷ xs) ys zero below = refl
get_left (x ∷ xs) ys (suc k) below = get_left xs ys k (omega (arith, below))

get_right : {X : Type 0} (xs ys : List X) (k : ℕ) → slice_get (xs ++ ys) (length xs + k) ≡ slice_get ys k
get_right [] ys k = ap (slice_get ys) (zero-add k)
get_right (x ∷ xs) ys k = (let same : suc (length xs) + k ≡ suc (length xs + k) = omega arith in
    ap (slice_get (x ∷ (xs ++ ys))) same ∙ get_right xs ys k)

pub found : {X : Type 0} (xs : List X) (k : ℕ) → k < length xs → (x : X) × (slice_get xs k ≡ Some x)
found [] k below = absurd (omega (arith, below))
found (x ∷ xs) zero below = (x, refl)
found (x ∷ xs) (suc k) below = found xs k (omega (arith, below))

pub All-at : {X : Type 0} (P : X → Type 0) (xs : List X) (k : ℕ) (x : X) → All P xs → slice_get xs k ≡ Some x → P x
All-at P xs k x all is = subst P (get_or_from_slice_get xs k x x is) (all k x (slice_get_within xs k x is))

-- of lists of one length, one after another
module _ {X Y : Type 0} (g : X → List Y) (n : ℕ) where
  pub in_row : (xs : List X) (s t : ℕ) (x : X) → All (λ x. length (g x) ≡ n) xs → slice_get xs s ≡ Some x → t < n
      → slice_get (flat_map g xs) (s * n + t) ≡ slice_get (g x) t
  in_row [] s t x each is within = absurd (cc)
  in_row (x ∷ xs) zero t y each is within =
      let same : x ≡ y = cc in
      let here : length (g x) ≡ n = All-head (λ x. length (g x) ≡ n) x xs each in
      let place : 0 * n + t ≡ t = omega arith in
      ap (slice_get (g x ++ flat_map g xs)) place ∙ get_left (g x) (flat_map g xs) t (omega (arith, here, within))
      ∙ ap (λ z. slice_get (g z) t) same
  in_row (x ∷ xs) (suc s) t y each is within =
      let here : length (g x) ≡ n = All-head (λ x. length (g x) ≡ n) x xs each in
      let place : suc s * n + t ≡ length (g x) + (s * n + t) = omega (arith, here) in
      ap (slice_get (g x ++ flat_map g xs)) place ∙ get_right (g x) (flat_map g xs) (s * n + t)
      ∙ in_row xs s t y (All-rest (λ x. length (g x) ≡ n) x xs (x ∷ xs) refl each) is within

-- ---- what is made of members of a kind

module _ {X Y : Type 0} (f : X → Y) where
  one_more : (b : Bool) (x : X) (ys : List Y) (xs : List X) → ys ≡ map f xs → cond b (f x ∷ ys) ys ≡ map f (cond b (x ∷ xs) xs)
  one_more true x ys xs same = ap (λ zs. f x ∷ zs) same
  one_more false x ys xs same = same

  filter_made : (test : Y → Bool) (xs : List X) → filter test (map f xs) ≡ map f (filter (λ x. test (f x)) xs)
  filter_made test [] = refl
  filter_made test (x ∷ xs) = one_more (test (f x)) x (filter test (map f xs)) (filter (λ x. test (f x)) xs) (filter_made test xs)

  pub by_kind_made : (kind : Y → Kind) (xs : List X) → by_kind kind (map f xs) ≡ map f (by_kind (λ x. kind (f x)) xs)
  by_kind_made kind xs =
      let of : Kind → List X = λ k. filter (λ x. is_of k (kind (f x))) xs in
      ap (λ ys. ys ++ (filter (λ y. is_of Audio (kind y)) (map f xs) ++ filter (λ y. is_of Text (kind y)) (map f xs)))
      (filter_made (λ y. is_of Video (kind y)) xs)
      ∙ ap (λ ys. map f (of Video) ++ (ys ++ filter (λ y. is_of Text (kind y)) (map f xs))) (filter_made (λ y. is_of Audio (kind y)) xs)
      ∙ ap (λ ys. map f (of Video) ++ (map f (of Audio) ++ ys)) (filter_made (λ y. is_of Text (kind y)) xs)
      ∙ ap (λ ys. map f (of Video) ++ ys) (sym (map-append f (of Audio) (of Text)))
      ∙ sym (map-append f (of Video) (of Audio ++ of Text))

-- ---- nothing is dropped

kept_on : {X : Type 0} (b : Bool) (x : X) (xs ys : List X) → b ≡ true → xs ≡ ys → cond b (x ∷ xs) xs ≡ x ∷ ys
kept_on true x xs ys is same = ap (λ zs. x ∷ zs) same
kept_on false x xs ys is same = absurd (cc)

pub all_kept : {X : Type 0} (test : X → Bool) (xs : List X) → All (λ x. test x ≡ true) xs → filter test xs ≡ xs
all_kept test [] all = refl
all_kept test (x ∷ xs) all =
    kept_on (test x) x (filter test xs) xs (All-head (λ x. test x ≡ true) x xs all)
    (all_kept test xs (All-rest (λ x. test x ≡ true) x xs (x ∷ xs) refl all))

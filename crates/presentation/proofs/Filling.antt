-- That each Representation of each Period is told, and ends where nothing is followed.
use Rattle.std.proofs.Common.{◌≡◌, ℕ, suc, ◌+◌, ◌*◌, cond, List, [], ◌∷◌, ◌++◌, filter, length, All, Result, Ok, Err, refl, sym, ◌∙◌, ap}
use Rattle.std.proofs.{Common.{subst, arith, length-append}, lemmas.List.Elements.{All-append, All-filter, All-nil, All-head, All-rest}}
use Rattle.bridge_io.proofs.AndThen.{steps_of}
use Rattle.bridge_io.specs.{declared.media.Kind.Kind, declared.media.Kind.TheVariants.{Video, Audio, Text}, Answer.{told_as, gathered}}
use Rattle.presentation.specs.Order.{is_of, by_kind}

pub ok_under : {X E F : Type 0} (tell : E → F) (r : Result X E) (x : X) → told_as tell r ≡ Ok x → r ≡ Ok x
ok_under tell (Ok y) x is = (let same : y ≡ x = cc in ap Ok same)
ok_under tell (Err e) x is = absurd (cc)

-- ---- gathered members

module _ {X Y E : Type 0} (give : X → Result (List Y) E) where
  pub all_gathered : (P : Y → Type 0) → ((x : X) (ys : List Y) → give x ≡ Ok ys → All P ys) → (xs : List X) (zs : List Y)
      → gathered give xs ≡ Ok zs → All P zs
  all_gathered P each [] zs is = (let none : [] ≡ zs = cc in subst (All P) none (All-nil P))
  all_gathered P each (x ∷ xs) zs is =
      let s = steps_of (give x) _ zs is in
      let t = steps_of (gathered give xs) _ zs s.then in
      let same : s.value ++ t.value ≡ zs = (let h = t.then in cc) in
      subst (All P) same (All-append P s.value t.value (each x s.value s.first) (all_gathered P each xs t.value t.first))

  -- so many come of one
  abbrev pub Gives-length : ℕ → X → Type 0
  Gives-length k x = (ys : List Y) → give x ≡ Ok ys → length ys ≡ k

  pub length_gathered : (k : ℕ) (xs : List X) → All (Gives-length k) xs → (zs : List Y) → gathered give xs ≡ Ok zs
      → length zs ≡ length xs * k
  length_gathered k [] each zs is = (let none : [] ≡ zs = cc in let nothing : length zs ≡ 0 = ap length (sym none) in
      omega (arith, nothing))
  length_gathered k (x ∷ xs) each zs is =
      let s = steps_of (give x) _ zs is in
      let t = steps_of (gathered give xs) _ zs s.then in
      let same : s.value ++ t.value ≡ zs = (let h = t.then in cc) in
      let here : length s.value ≡ k = All-head (Gives-length k) x xs each s.value s.first in
      let later : length t.value ≡ length xs * k =
      length_gathered k xs (All-rest (Gives-length k) x xs (x ∷ xs) refl each) t.value t.first in
      ap length (sym same) ∙ length-append s.value t.value ∙ omega (arith, here, later)

-- ---- in the order of kinds

module _ {X : Type 0} where
  one_counted : (k : Kind) (x : X) (v a t : List X) (n : ℕ) → length v + (length a + length t) ≡ n
      → length (cond (is_of Video k) (x ∷ v) v) + (length (cond (is_of Audio k) (x ∷ a) a) + length (cond (is_of Text k) (x ∷ t) t)) ≡ suc n
  one_counted Video x v a t n is = omega arith
  one_counted Audio x v a t n is = omega arith
  one_counted Text x v a t n is = omega arith

  counted : (kind : X → Kind) (xs : List X) → length (filter (λ x. is_of Video (kind x)) xs) +
      (length (filter (λ x. is_of Audio (kind x)) xs) + length (filter (λ x. is_of Text (kind x)) xs)) ≡ length xs
  counted kind [] = refl
  counted kind (x ∷ xs) = one_counted (kind x) x _ _ _ (length xs) (counted kind xs)

  pub length_in_order : (kind : X → Kind) (xs : List X) → length (by_kind kind xs) ≡ length xs
  length_in_order kind xs =
      length-append (filter (λ x. is_of Video (kind x)) xs) _
      ∙ ap (λ n. length (filter (λ x. is_of Video (kind x)) xs) + n)
      (length-append (filter (λ x. is_of Audio (kind x)) xs) (filter (λ x. is_of Text (kind x)) xs))
      ∙ counted kind xs

  pub all_in_order : (kind : X → Kind) (P : X → Type 0) (xs : List X) → All P xs → All P (by_kind kind xs)
  all_in_order kind P xs all = All-append P _ _ (All-filter _ P xs all) (All-append P _ _ (All-filter _ P xs all) (All-filter _ P xs all))

-- Codes that are joined.
use Rattle.std.proofs.Common.{◌≡◌, ℕ, Bool, true, false, List, [], ◌∷◌, ◌++◌, map, flat_map, if◌then◌else◌, refl, ap, ◌∙◌, sym}
use Rattle.std.proofs.{Common.append_assoc, lemmas.List.{append-nil, map-append}}
use Rattle.mpd_presentation.specs.Rows.{with_commas}

abbrev pub is_nil : {X : Type 0} → List X → Bool
is_nil [] = true
is_nil (x ∷ xs) = false

pub not_nil : {X : Type 0} (xs : List X) (x : X) → is_nil (xs ++ x ∷ []) ≡ false
not_nil [] x = refl
not_nil (y ∷ ys) x = refl

pub seen_twice : {X Y Z : Type 0} (f : Y → Z) (g : X → Y) (xs : List X) → map (λ x. f (g x)) xs ≡ map f (map g xs)
seen_twice f g [] = refl
seen_twice f g (x ∷ xs) = ap (λ ys. f (g x) ∷ ys) (seen_twice f g xs)

later_more : (codes : List (List ℕ)) (code : List ℕ) → flat_map (λ later. 44 ∷ later) (codes ++ code ∷ [])
    ≡ flat_map (λ later. 44 ∷ later) codes ++ (44 ∷ code)
later_more [] code = append-nil (44 ∷ code)
later_more (c ∷ codes) code = ap (λ xs. (44 ∷ c) ++ xs) (later_more codes code)
    ∙ sym (append_assoc (44 ∷ c) (flat_map (λ later. 44 ∷ later) codes) (44 ∷ code))

-- one more code behind those that were joined
pub code_pushed : {X : Type 0} (see : X → List ℕ) (yielded : List X) (code : X) (joined after : List ℕ)
    → joined ≡ with_commas (map see yielded)
    → after ≡ (if is_nil yielded then joined else joined ++ 44 ∷ []) ++ see code → after ≡ with_commas (map see (yielded ++ code ∷ []))
code_pushed see [] code joined after so_far is = is ∙ ap (λ xs. xs ++ see code) so_far ∙ sym (append-nil (see code))
code_pushed see (y ∷ ys) code joined after so_far is =
    is ∙ append_assoc joined (44 ∷ []) (see code) ∙ ap (λ xs. xs ++ (44 ∷ see code)) so_far
    ∙ append_assoc (see y) (flat_map (λ later. 44 ∷ later) (map see ys)) (44 ∷ see code)
    ∙ ap (λ xs. see y ++ xs) (sym (later_more (map see ys) (see code))
    ∙ ap (flat_map (λ later. 44 ∷ later)) (sym (map-append see ys (code ∷ []))))

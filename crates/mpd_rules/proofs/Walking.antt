-- A loop over a slice of nodes, by what is left of it.
use Rattle.std.proofs.Common.{◌≡◌, ℕ, ◌+◌, ◌<◌, List, ◌∷◌, map, length, drop, get_or, sym, ◌∙◌, ap, subst, take, ◌-◌, arith}
use Rattle.std.proofs.{Math.ListN.get_or-map, lemmas.List.{at_drop_more, drop-map, length-drop, length-map, take_all}}
use Rattle.std.proofs.lemmas.List.Elements.{All-drop}
use Rattle.std.specs.List.{All}

module _ {X Y : Type 0} (show : X → Y) where
  pub one_left : (xs : List X) (k : ℕ) (x : X) → k < length xs → x ≡ get_or xs k x
      → map show (drop k xs) ≡ show x ∷ map show (drop (k + 1) xs)
  one_left xs k x within is = at_drop_more (map show) xs k x within ∙ ap (λ y. show y ∷ map show (drop (k + 1) xs)) (sym is)

  pub all_here : (P : Y → Type 0) (xs : List X) (k : ℕ) (x : X) → All P (map show xs) → k < length xs → x ≡ get_or xs k x → P (show x)
  all_here P xs k x all within is = subst P (get_or-map show xs k x ∙ ap show (sym is))
      (all k (show x) (subst (λ n. k < n) (sym (length-map xs show)) within))

  pub all_later : (P : Y → Type 0) (xs : List X) (k : ℕ) → All P (map show xs) → All P (map show (drop k xs))
  all_later P xs k all = rw (← drop-map show k xs) (All-drop P k (map show xs) all)

-- what is left of a slice, as a range of it
pub rest_is : {X : Type 0} (xs : List X) (k : ℕ) → take (length xs - k) (drop k xs) ≡ drop k xs
rest_is xs k = take_all (length xs - k) (drop k xs) (omega (arith, length-drop k xs))

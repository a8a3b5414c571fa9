-- Steps of walks over lists, and over places in order.
use Rattle.std.proofs.Common.{◌≡◌, ℕ, ◌+◌, ◌-◌, ◌<◌, ◌≤◌, min, List, [], ◌∷◌, ◌++◌, drop, length, refl, ap, arith}
use Rattle.std.proofs.{lemmas.Grind.common_steps, lemmas.List.{drop-map, drop_more, take_rest}, lemmas.List.Sums.sum_by-append}
use Rattle.std.proofs.{lemmas.List.Sums.sum_by-cons, lemmas.Option.{gets, slice_get-map, slice_get_past}}
use Rattle.std.specs.{Prelude.{None, Some, sum, option_to_list, slice_get}, List.range_with_len, Option.option_or}
use Rattle.presentation.proofs.Counts.{from_on, from_on-first}

pub drop_step : {X : Type 0} (xs : List X) (i : ℕ) → drop i xs ≡ option_to_list (slice_get xs i) ++ drop (i + 1) xs
drop_step xs i = grind (arith, common_steps, gets, drop_more)

pub get_front : {X : Type 0} (xs ys : List X) (k : ℕ) (x : X) → slice_get (xs ++ ys) k ≡ Some x → k < length xs → slice_get xs k ≡ Some x
get_front xs ys k x at less = grind (arith, common_steps, gets)

pub first_append : {X : Type 0} (xs ys : List X) → slice_get (xs ++ ys) 0 ≡ option_or (slice_get xs 0) (slice_get ys 0)
first_append [] ys = refl
first_append (x ∷ xs) ys = refl

pub from_on-past : (i n : ℕ) → n ≤ i → from_on i n ≡ []
from_on-past i n past = let none : n - i ≡ 0 = omega arith in ap (range_with_len i) none

pub get_min : {X : Type 0} (xs : List X) (k : ℕ) → slice_get xs (min k (length xs)) ≡ slice_get xs k
get_min xs k = grind (arith, slice_get_past)

pub sum-append : (ns ms : List ℕ) → sum (ns ++ ms) ≡ sum ns + sum ms
sum-append ns ms = sum_by-append (λ m. m) ns ms

pub none_from_first : {X : Type 0} (xs : List X) → slice_get xs 0 ≡ None → xs ≡ []
none_from_first [] none = refl
none_from_first (x ∷ xs) none = absurd (cc)

-- a step in a list, and one of places in order
pub ruleset in_lists = (common_steps, drop_step, first_append, slice_get-map, drop-map, take_rest)

pub ruleset in_order = (common_steps, from_on-first, from_on-past, first_append, sum_by-cons, sum-append)

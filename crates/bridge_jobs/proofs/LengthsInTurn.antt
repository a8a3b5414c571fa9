-- Lengths that are read one behind another.
use Rattle.std.proofs.Common.{◌≡◌, ◌<◌, ◌≤◌, ◌-◌, ◌+◌, ℕ, suc, List, [], ◌∷◌, ◌++◌, length, Option, Some, None, option_map, refl, sym, ap}
use Rattle.std.proofs.{Common.{◌∙◌, arith, append_assoc, length-append}, lemmas.List.append-nil, lemmas.List.Sums.sum_by-append}
use Rattle.std.specs.Prelude.{sum}
use Rattle.bridge_jobs.specs.{Jobs.◌>>=◌, Rounds.{lengths_of, most_bodies, next_length, none_left}}

-- some lengths were read, and the others go on with what is left of the text
pub record IsSoFar (tracks : ℕ) (text : Option (List ℕ)) (i : ℕ) (lengths : List ℕ) (room : ℕ) (rest : Option (List ℕ)) : Type 0 where
  pub all : lengths_of tracks most_bodies text ≡ option_map (λ more. lengths ++ more) (lengths_of (tracks - i) room rest)
  pub small : room + sum lengths ≡ most_bodies
  pub count : length lengths ≡ i

with_none : (found : Option (List ℕ)) → found ≡ option_map (λ more. [] ++ more) found
with_none None = refl
with_none (Some lengths) = refl

with_more : (front : List ℕ) (size : ℕ) (found : Option (List ℕ))
    → option_map (λ more. front ++ more) (option_map (λ more. size ∷ more) found) ≡ option_map (λ more. (front ++ size ∷ []) ++ more) found
with_more front size None = refl
with_more front size (Some more) = ap Some (sym (append_assoc front (size ∷ []) more))

lengths_next : (left room : ℕ) (rest : Option (List ℕ)) (next : Option (ℕ × Option (List ℕ))) → next_length room rest ≡ next
    → lengths_of (suc left) room rest ≡ (next >>= (λ x. option_map (λ lengths. x.0 ∷ lengths) (lengths_of left (room - x.0) x.1)))
unfolding lengths_of
lengths_next left room rest next is = ap (λ n. n >>= (λ x. option_map (λ lengths. x.0 ∷ lengths) (lengths_of left (room - x.0) x.1))) is

lengths_end : (room : ℕ) (rest : Option (List ℕ)) → lengths_of 0 room rest ≡ none_left rest
unfolding lengths_of
lengths_end room rest = refl

pub so_far_none : (tracks : ℕ) (text : Option (List ℕ)) → IsSoFar tracks text 0 [] most_bodies text
so_far_none tracks text = record {
  all = let left : tracks - 0 ≡ tracks = omega arith in rw left (with_none (lengths_of tracks most_bodies text));
  small = refl;
  count = refl;
}

module _ (tracks i room : ℕ) (text rest : Option (List ℕ)) (lengths : List ℕ) (so_far : IsSoFar tracks text i lengths room rest) where
  pub so_far_more : (size : ℕ) (more : Option (List ℕ)) → i < tracks → next_length room rest ≡ Some (size, more) → size ≤ room
      → IsSoFar tracks text (i + 1) (lengths ++ size ∷ []) (room - size) more
  so_far_more size more within is small = record {
    all = let left : tracks - i ≡ suc (tracks - (i + 1)) = omega arith in
        so_far.all ∙ ap (λ n. option_map (λ xs. lengths ++ xs) (lengths_of n room rest)) left
        ∙ ap (option_map (λ xs. lengths ++ xs)) (lengths_next (tracks - (i + 1)) room rest (Some (size, more)) is)
        ∙ with_more lengths size (lengths_of (tracks - (i + 1)) (room - size) more);
    small = omega (arith, so_far.small, sum_by-append (λ n. n) lengths (size ∷ []), small);
    count = omega (arith, so_far.count, length-append lengths (size ∷ []));
  }

  pub no_length : i < tracks → next_length room rest ≡ None → lengths_of tracks most_bodies text ≡ None
  no_length within is = let left : tracks - i ≡ suc (tracks - (i + 1)) = omega arith in
      so_far.all ∙ ap (λ n. option_map (λ xs. lengths ++ xs) (lengths_of n room rest)) left
      ∙ ap (option_map (λ xs. lengths ++ xs)) (lengths_next (tracks - (i + 1)) room rest None is)

  at_end : tracks ≤ i → lengths_of tracks most_bodies text ≡ option_map (λ xs. lengths ++ xs) (none_left rest)
  at_end last = let left : tracks - i ≡ 0 = omega arith in
      so_far.all ∙ ap (λ n. option_map (λ xs. lengths ++ xs) (lengths_of n room rest)) left
      ∙ ap (option_map (λ xs. lengths ++ xs)) (lengths_end room rest)

  pub too_long : (more : List ℕ) → tracks ≤ i → rest ≡ Some more → lengths_of tracks most_bodies text ≡ None
  too_long more last is = at_end last ∙ ap (λ r. option_map (λ xs. lengths ++ xs) (none_left r)) is

  pub all_lengths : tracks ≤ i → rest ≡ None → lengths_of tracks most_bodies text ≡ Some lengths
  all_lengths last is = at_end last ∙ ap (λ r. option_map (λ xs. lengths ++ xs) (none_left r)) is ∙ ap Some (append-nil lengths)

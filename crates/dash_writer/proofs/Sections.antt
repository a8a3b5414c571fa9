-- Sections and sets of tracks one after another.
use Rattle.std.proofs.Common.{◌≡◌, ℕ, suc, ◌+◌, ◌<◌, ◌==◌, false, List, [], ◌∷◌, ◌++◌, length, take, drop, get_or, codes, refl, sym, ap}
use Rattle.std.proofs.{Common.{◌∙◌, arith}, lemmas.Bool.Decides.nat_tests}
use Rattle.presentation.specs.declared.track.Track.{Track}
use Rattle.dash_writer.specs.{Elements.{Attribute, Element, node}, Outline.{Outline, heads_from, period_element, period_elements}}
use Rattle.dash_writer.specs.Outline.{set_attributes, set_element, set_elements, sets_of, stand_together, track_element, track_elements}
use Rattle.dash_writer.specs.{Runs.longest_runs, Written.{element_text, elements_text, is_childless}}
use Rattle.dash_writer.proofs.{Neighbours.begins, Nodes.{elements-append, elements-cons}, Progress.next_at}

pub nothing_left : {X : Type 0} (xs : List X) → length xs ≡ 0 → xs ≡ []
nothing_left [] none = refl
nothing_left (x ∷ xs) none = absurd (let no : suc (length xs) ≡ 0 = none in omega (arith, no))

some_length : (n : ℕ) → false ≡ (suc n == 0)
some_length n = grind (arith, nat_tests)

pub childless_periods : {P : Type 0} (o : Outline) (head : ℕ → P → List Attribute) (place : ℕ) (periods : List P)
    → is_childless (period_elements o place (heads_from head place periods)) ≡ (length periods == 0)
childless_periods o head place [] = refl
childless_periods o head place (period ∷ periods) = some_length (length periods)

pub childless_sets : (lists : ℕ → List Element) (tracks : List Track) → is_childless (sets_of lists tracks) ≡ (length tracks == 0)
childless_sets lists [] = refl
childless_sets lists (track ∷ tracks) = let first = begins stand_together track (longest_runs stand_together tracks) in
    rw first.2 (some_length (length tracks))

-- the set of some tracks
module _ (lists : ℕ → List Element) (place : ℕ) (first : Track) (others set : List Track) (is : set ≡ first ∷ others) where
  pub one_set : element_text (node (codes "AdaptationSet") (set_attributes first) (track_elements lists place set))
      ≡ elements_text (set_element lists place set)
  one_set = rw is refl

  pub some_tracks : is_childless (track_elements lists place set) ≡ false
  some_tracks = rw is refl

-- the track at a place, and those behind it
pub tracks_behind : (lists : ℕ → List Element) (place : ℕ) (tracks : List Track) (k : ℕ) (track : Track)
    → k < length tracks → track ≡ get_or tracks k track
    → elements_text (track_elements lists (place + k) (drop k tracks))
    ≡ element_text (track_element lists (place + k) track) ++ elements_text (track_elements lists (place + k + 1) (drop (k + 1) tracks))
tracks_behind lists place tracks k track below is =
    ap (λ tracks. elements_text (track_elements lists (place + k) tracks)) (next_at tracks k track below is)
    ∙ elements-cons (track_element lists (place + k) track) (track_elements lists (place + k + 1) (drop (k + 1) tracks))

-- the Period at a place, and those behind it
pub periods_behind : {P : Type 0} (o : Outline) (head : ℕ → P → List Attribute) (periods : List P) (k : ℕ) (period : P)
    → k < length periods → period ≡ get_or periods k period
    → elements_text (period_elements o k (heads_from head k (drop k periods)))
    ≡ element_text (period_element o k (head k period))
    ++ elements_text (period_elements o (k + 1) (heads_from head (k + 1) (drop (k + 1) periods)))
periods_behind o head periods k period below is =
    ap (λ periods. elements_text (period_elements o k (heads_from head k periods))) (next_at periods k period below is)
    ∙ elements-cons (period_element o k (head k period)) (period_elements o (k + 1) (heads_from head (k + 1) (drop (k + 1) periods)))

-- the first set of some tracks, and those behind it
pub first_set : (lists : ℕ → List Element) (place n : ℕ) (first : Track) (others rest set behind : List Track) → rest ≡ first ∷ others
    → longest_runs stand_together (first ∷ others) ≡ (first ∷ take n others) ∷ longest_runs stand_together (drop n others)
    → set ≡ take (1 + n) rest → behind ≡ drop (1 + n) rest
    → elements_text (set_elements lists place (longest_runs stand_together rest))
    ≡ elements_text (set_element lists place set)
    ++ elements_text (set_elements lists (place + length set) (longest_runs stand_together behind))
first_set lists place n first others rest set behind is runs is_set is_behind =
    let next : 1 + n ≡ suc n = omega arith in
    let set_is : set ≡ first ∷ take n others = is_set ∙ ap (λ k. take k rest) next ∙ ap (take (suc n)) is in
    let behind_is : behind ≡ drop n others = is_behind ∙ ap (λ k. drop k rest) next ∙ ap (drop (suc n)) is in
    let sets : longest_runs stand_together rest ≡ set ∷ longest_runs stand_together behind =
    ap (longest_runs stand_together) is ∙ runs ∙ ap (λ xs. xs ∷ longest_runs stand_together (drop n others)) (sym set_is)
    ∙ ap (λ xs. set ∷ longest_runs stand_together xs) (sym behind_is) in
    ap (λ runs. elements_text (set_elements lists place runs)) sets
    ∙ elements-append (set_element lists place set) (set_elements lists (place + length set) (longest_runs stand_together behind))

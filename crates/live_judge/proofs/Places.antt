-- The places of Periods' ids among the known ones.
use Rattle.std.proofs.Common.{◌≡◌, ℕ, zero, suc, ◌+◌, ◌<◌, ◌≤◌, min, Bool, true, false, ◌&&◌, not, List, [], ◌∷◌, ◌++◌, length, drop}
use Rattle.std.proofs.Common.{get_or, take, Some, bytes_eq, refl, sym, ◌∙◌, ap, subst, arith, append-nil, length-append, length-drop}
use Rattle.std.proofs.{lemmas.Bool.and_parts, lemmas.List.{drop_all, drop_at, length-map, take-append-drop}}
use Rattle.std.proofs.{lemmas.List.Folds.{Any-from_list_any, list_any_at}, lemmas.List.FromFn.get_or-range_with_len}
use Rattle.std.proofs.{lemmas.List.FromFn.length-range_with_len, lemmas.List.Sums.prefix_len-le-length, lemmas.Option.cond_some}
use Rattle.std.proofs.lemmas.Slice.Eq.{bytes_eq-Decides}
use Rattle.std.specs.{Prelude.slice_get, List.{list_all, list_any, position_or_len, range_with_len, starts_with}}
use Rattle.mpd_rules.specs.Laws.{are_once}
use Rattle.presentation.specs.{declared.track.Section.Section, Presented.Presented}
use Rattle.live_meaning.specs.{Segments.place_of, Known.{Known, goes_on, goes_on_from, ids_of, known_by, known_with}, Refusals.ids_in}
use Rattle.live_meaning.proofs.{Histories.get_drop, Accepted.{AreLast, last_again, last_with_new, new_in, place_is, placed_at, known_grown}}
use Rattle.live_meaning.proofs.Playlists.{few_known}
use Rattle.live_judge.specs.{Known.StandsAt, Changed.{first_place, place_among}}
use Rattle.live_judge.proofs.Walks.{get_min}

-- ---- places of elements

position_before : (p : List ℕ → Bool) (xs ys : List (List ℕ)) → position_or_len p xs ≡ min (position_or_len p (xs ++ ys)) (length xs)
position_before p [] ys = omega arith
position_before p (x ∷ xs) ys = grind (arith, position_before p xs ys)

position_none : (p : List ℕ → Bool) (xs : List (List ℕ)) → list_any p xs ≡ false → position_or_len p xs ≡ length xs
position_none p [] none = refl
position_none p (x ∷ xs) none = grind (arith, position_none p xs)

-- a known Period is found at its id's place
pub known_there : (known : List Known) (id : List ℕ) → known_by known id ≡ slice_get known (position_or_len (bytes_eq id) (ids_of known))
known_there [] id = refl
known_there (k ∷ known) id = grind (arith, known_there known id)

-- ---- ids that go on

pub first_within : (known ids : List (List ℕ)) → first_place known ids ≤ length known
first_within known [] = omega arith
first_within known (id ∷ ids) = omega (arith, place_is known id, prefix_len-le-length (λ x. not (bytes_eq id x)) known)

-- from where they go on the same are left as from the first one's place
same_rest : (known ids rest : List (List ℕ)) (k : ℕ) → are_once known ≡ true → drop k known ≡ rest
    → (starts_with bytes_eq ids rest && list_all (λ id. not (list_any (bytes_eq id) known)) (drop (length rest) ids)) ≡ true
    → drop (first_place known ids) known ≡ rest
same_rest known [] [] k once at is = drop_all (length known) known (omega arith)
same_rest known (x ∷ ids) [] k once at is =
    let new : list_any (bytes_eq x) known ≡ false = grind arith in
    drop_all (place_of known x) known (omega (arith, place_is known x, position_none (bytes_eq x) known new))
same_rest known [] (y ∷ rest) k once at is = absurd (cc)
same_rest known (x ∷ ids) (y ∷ rest) k once at is =
    let is_same : bytes_eq y x ≡ true = grind arith in
    let same : y ≡ x = (bytes_eq-Decides y x).0 is_same in
    let there : slice_get known (k + 0) ≡ Some y = sym (get_drop k known 0) ∙ ap (λ (xs : List (List ℕ)). slice_get xs 0) at in
    let place : place_of known y ≡ k + 0 = placed_at known (k + 0) y once there in
    rw (← same, place) (ap (λ n. drop n known) (omega arith) ∙ at)

range_end : (a n k : ℕ) → k ≡ a + n → range_with_len a n ++ k ∷ [] ≡ range_with_len a (n + 1)
range_end a zero k same = grind arith
range_end a (suc n) k same = grind (arith, range_end (a + 1) n k)

same_tests : (a b : Bool) → (a ≡ true → b ≡ true) → (b ≡ true → a ≡ true) → a ≡ b
same_tests a b there back = grind arith

-- where ids go on, they do so from the first one's place
pub goes_on_first : (known ids : List (List ℕ)) → are_once known ≡ true → goes_on known ids ≡ goes_on_from known ids (first_place known ids)
goes_on_first known ids once =
    let n = length known in
    let first = first_place known ids in
    same_tests (goes_on known ids) (goes_on_from known ids first)
    (λ is. let from = Any-from_list_any (goes_on_from known ids) (range_with_len 0 n ++ n ∷ []) is in
    ap (λ (rest : List (List ℕ)). starts_with bytes_eq ids rest && list_all (λ id. not (list_any (bytes_eq id) known))
    (drop (length rest) ids)) (same_rest known ids (drop from.1 known) from.1 once refl from.4) ∙ from.4)
    (λ is. let within : first < n + 1 = omega (arith, first_within known ids) in
    let here : get_or (range_with_len 0 (n + 1)) first 0 ≡ first = omega (arith, get_or-range_with_len 0 (n + 1) first 0 within) in
    rw (range_end 0 n n (omega arith)) (list_any_at (goes_on_from known ids) (range_with_len 0 (n + 1)) first 0
    (omega (arith, within, length-range_with_len 0 (n + 1))) (ap (goes_on_from known ids) here ∙ is)))

-- ---- the Periods that an MPD leaves known

pub stands_there : (known ids : List (List ℕ)) (place s : ℕ) (id : List ℕ) → StandsAt known ids place → slice_get ids s ≡ Some id
    → slice_get known (place + s) ≡ Some id
stands_there known ids place s id is at = sym (get_drop place known s) ∙ ap (λ (xs : List (List ℕ)). slice_get xs s) is.behind ∙ at

-- the place of a Period in force
pub place_there : (known ids : List (List ℕ)) (place s : ℕ) (id : List ℕ) → StandsAt known ids place → slice_get ids s ≡ Some id
    → place_of known id ≡ place + s
place_there known ids place s id is at = placed_at known (place + s) id is.once (stands_there known ids place s id is at)

-- among those that were known before it stands at the same place, or behind them all
pub place_before : (known more ids : List (List ℕ)) (place s : ℕ) (id : List ℕ) → StandsAt (known ++ more) ids place
    → slice_get ids s ≡ Some id
    → place_of known id ≡ min (place + s) (length known)
place_before known more ids place s id is at =
    omega (
      arith,
      place_is known id,
      position_before (bytes_eq id) known more,
      place_is (known ++ more) id,
      place_there (known ++ more) ids place s id is at,
    )

pub last_stands : (known ids : List (List ℕ)) (last : AreLast known ids) → StandsAt known ids (length last.front)
last_stands known ids last = record {
  once = last.once;
  within = omega (arith, ap (λ (xs : List (List ℕ)). length xs) last.split, length-append last.front ids);
  behind = ap (drop (length last.front)) last.split ∙ drop_at last.front ids (length last.front) refl;
}

-- the first one's place is where they stand
first_at : (known more ids : List (List ℕ)) (place : ℕ) → StandsAt (known ++ more) ids place → place ≤ length known
    → length more ≤ length ids → first_place known ids ≡ place
first_at known more [] place is le few =
    omega (
      arith,
      length-append known more,
      length-drop place (known ++ more),
      ap (λ (xs : List (List ℕ)). length xs) is.behind,
    )
first_at known more (x ∷ ids) place is le few = omega (arith, place_before known more (x ∷ ids) place 0 x is refl)

module _ (known : List Known) (p : Presented) where
  abbrev pub more : List (List ℕ)
  more = new_in (ids_of known) (ids_in p)

  pub stand_by : AreLast (ids_of known ++ more) (ids_in p) → StandsAt (ids_of (known_with known p)) (ids_in p)
      (first_place (ids_of known) (ids_in p))
  stand_by last =
      let stands = last_stands (ids_of known ++ more) (ids_in p) last in
      let few : length more ≤ length (ids_in p) = omega (
        arith,
        few_known known p,
        length-map (known_with known p) (λ (k : Known). k.id),
        ap (λ (xs : List (List ℕ)). length xs) (known_grown known p),
        length-append (ids_of known) more,
        length-map known (λ (k : Known). k.id),
        length-map p.sections (λ (section : Section). section.id),
      ) in
      let within : length last.front ≤ length (ids_of known) = omega (
        arith,
        few,
        ap (λ (xs : List (List ℕ)). length xs) last.split,
        length-append last.front (ids_in p),
        length-append (ids_of known) more,
      ) in
      rw (known_grown known p, first_at (ids_of known) more (ids_in p) (length last.front) stands within few) stands

  -- the Periods of an MPD that goes on stand behind the others
  pub new_stand : (place : ℕ) → are_once (ids_of known) ≡ true → place_among (ids_of known) (ids_in p) ≡ Some place
      → StandsAt (ids_of (known_with known p)) (ids_in p) place
  new_stand place once among =
      let is = cond_some _ _ _ among in
      let split = and_parts _ _ is.0 in
      subst (StandsAt (ids_of (known_with known p)) (ids_in p)) is.1
      (stand_by (last_with_new (ids_of known) (ids_in p) once split.0 split.1))

  -- and so do those of one that stays in force
  pub same_stand : (place : ℕ) → StandsAt (ids_of known) (ids_in p) place → StandsAt (ids_of (known_with known p)) (ids_in p) place
  same_stand place is =
      let last : AreLast (ids_of known) (ids_in p) = record {
        front = take place (ids_of known);
        split = sym (take-append-drop place (ids_of known)) ∙ ap (λ (xs : List (List ℕ)). take place (ids_of known) ++ xs) is.behind;
        once = is.once;
      } in
      let stands : StandsAt (ids_of known ++ []) (ids_in p) place = rw append-nil is in
      subst (StandsAt (ids_of (known_with known p)) (ids_in p)) (first_at (ids_of known) [] (ids_in p) place stands is.within (omega arith))
      (stand_by (last_again (ids_of known) (ids_in p) last))

pub known_before : (known : List Known) (more ids : List (List ℕ)) (place s : ℕ) (id : List ℕ) → StandsAt (ids_of known ++ more) ids place
    → slice_get ids s ≡ Some id → known_by known id ≡ slice_get known (place + s)
known_before known more ids place s id is at =
    let there : position_or_len (bytes_eq id) (ids_of known) ≡ min (place + s) (length known) =
    omega (
      arith,
      place_is (ids_of known) id,
      place_before (ids_of known) more ids place s id is at,
      length-map known (λ (k : Known). k.id),
    ) in
    known_there known id ∙ ap (slice_get known) there ∙ get_min known (place + s)

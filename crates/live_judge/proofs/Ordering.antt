-- Indices in the order of their ids.
use Rattle.std.proofs.Common.{◌≡◌, ◌⊎◌, ◌∙◌, ℕ, ◌+◌, ◌-◌, ◌<◌, ◌≤◌, Bool, true, false, List, [], ◌++◌, length, map}
use Rattle.std.proofs.Common.{get_or, Option, Some, None, refl, sym}
use Rattle.std.proofs.Common.{ap, subst, inl, inr, arith, is_lt, nat_cmp, Ordering, Less, Equal, Greater}
use Rattle.std.proofs.lemmas.{Bool.{cases_Bool, cases_eq, cases_lt}, Cmp.nat_list_cmp_total, Map.Text.is_eq-slice_cmp}
use Rattle.std.proofs.lemmas.List.Edits.{get_or-insert_above, get_or-insert_at, get_or-insert_below, length-insert}
use Rattle.std.proofs.lemmas.Option.{slice_get-get_or, slice_get-map, slice_get_past, slice_get_read, slice_get_within}
use Rattle.std.proofs.lemmas.Slice.Eq.{bytes_eq-Decides}
use Rattle.std.specs.{Prelude.{option_map, slice_get}, Ordering.{is_eq, ordering_reverse}, Cmp.Lexicographic.slice_cmp}
use Rattle.std.specs.{Option.{option_copied, option_map_or}, Borrow.Bor, Slice.IsItemAt}
use Rattle.std.specs.List.{insert, Sorted.{IsPartitionPoint, IsPartitionedBy}}
use Rattle.live_judge.specs.{declared.known.KnownPeriod.KnownPeriod, Known.known_shown, Order.{IsOrderOf, is_before, is_lower}}
use Rattle.live_meaning.specs.Known.{Known, ids_of}
use Rattle.live_meaning.proofs.{Accepted.placed_at, Histories.get_more}
use Rattle.mpd_rules.specs.Laws.{are_once}

-- ---- texts in order

less_from : (o : Ordering) → is_lt o ≡ true → o ≡ Less
less_from Less is = refl
less_from Equal is = absurd (cc)
less_from Greater is = absurd (cc)

lower_trans : (a b c : List ℕ) → is_lower a b ≡ true → is_lower b c ≡ true → is_lower a c ≡ true
lower_trans a b c ab bc = ap is_lt (nat_list_cmp_total.trans a b c (less_from _ ab) (less_from _ bc))

equal_or_higher : (a b : List ℕ) (o : Ordering) → slice_cmp nat_cmp a b ≡ o → is_lt o ≡ false → (a ≡ b) ⊎ (is_lower b a ≡ true)
equal_or_higher a b Less by not = absurd (cc)
equal_or_higher a b Equal by not = inl ((bytes_eq-Decides a b).0 (sym (is_eq-slice_cmp a b) ∙ ap is_eq by))
equal_or_higher a b Greater by not = inr (ap is_lt (nat_list_cmp_total.antisymm b a ∙ ap ordering_reverse by))

not_lower : (a b : List ℕ) → is_lower a b ≡ false → (a ≡ b) ⊎ (is_lower b a ≡ true)
not_lower a b not = equal_or_higher a b _ refl not

same_texts : (a b : List ℕ) → is_lower a b ≡ false → is_lower b a ≡ false → a ≡ b
same_texts a b ab ba = elim (not_lower a b ab) [ inl same ↦ same | inr lower ↦ absurd (cc) ]

lower_by : (a b c : List ℕ) → is_lower a c ≡ true → is_lower b c ≡ false → is_lower a b ≡ true
lower_by a b c ac bc = elim (not_lower b c bc) [
  | inl same ↦ subst (λ (x : List ℕ). is_lower a x ≡ true) (sym same) ac
  | inr higher ↦ lower_trans a c b ac higher
]

itself : (a : List ℕ) (o : Ordering) → slice_cmp nat_cmp a a ≡ o → is_lt o ≡ false
itself a Less by = absurd (cc (nat_list_cmp_total.antisymm a a))
itself a Equal by = refl
itself a Greater by = refl

-- what `get` lends of an index
pub lent_at : {X : Type 0} (xs : List X) (i : ℕ) (r : Option (Bor X)) → IsItemAt xs i r → option_copied r ≡ slice_get xs i
lent_at xs i None is = sym (slice_get_past xs i is.3)
lent_at xs i (Some x) is = sym (slice_get_read xs (length xs) i x.now refl is.3.0 is.1)

pub before_at : (periods : List KnownPeriod) (id : List ℕ) (place : ℕ) → is_before (ids_of (map known_shown periods)) id place
    ≡ option_map_or (λ (period : KnownPeriod). is_lower period.id id) (slice_get periods place) false
before_at periods id place = rw (slice_get-map, slice_get-map) (by (slice_get periods place))
  where
    by : (o : Option KnownPeriod)
        → option_map_or (λ own. is_lower own id) (option_map (λ (k : Known). k.id) (option_map known_shown o)) false
        ≡ option_map_or (λ (period : KnownPeriod). is_lower period.id id) o false
    by None = refl
    by (Some period) = refl

-- ---- an insert where a test turns

module _ (p : ℕ → Bool) (xs : List ℕ) (s n : ℕ) (inside : s ≤ length xs) where
  abbrev at : ℕ → (d : ℕ) → Bool
  at k d = p (get_or (insert xs s n) k d)

  below : (k d : ℕ) → k < s → at k d ≡ p (get_or xs k d)
  below k d less = ap p (get_or-insert_below xs s n d k less inside)

  here : (k d : ℕ) → k ≡ s → at k d ≡ p n
  here k d same = ap (λ (m : ℕ). at m d) same ∙ ap p (get_or-insert_at xs s n d inside)

  above : (k d : ℕ) → s < k → at k d ≡ p (get_or xs (k - 1) d)
  above k d less =
      let one_more : k ≡ (k - 1) + 1 = omega arith in
      ap (λ (m : ℕ). at m d) one_more ∙ ap p (get_or-insert_above xs s n d (k - 1) (omega arith) inside)

  module _ (parted : IsPartitionedBy p xs) (front : p n ≡ true → (k d : ℕ) → k < s → p (get_or xs k d) ≡ true)
      (behind : p n ≡ false → (k d : ℕ) → s ≤ k → k < length xs → p (get_or xs k d) ≡ false) where
    from_behind : (k d : ℕ) → s ≤ k → k < length xs → p (get_or xs k d) ≡ true → p n ≡ true
    from_behind k d le less is = elim (cases_Bool (p n)) [ inl passes ↦ passes | inr fails ↦ absurd (cc (behind fails k d le less)) ]

    -- where an element passes, the new one does that is not behind it
    new_passes : (j d : ℕ) → s ≤ j → j < length (insert xs s n) → at j d ≡ true → p n ≡ true
    new_passes j d le less is = elim (cases_eq j s) [
      | inl same ↦ sym (here j d same) ∙ is
      | inr other ↦ from_behind (j - 1) d (omega (arith, le, other)) (omega (arith, less, le, other, length-insert xs s n inside))
          (sym (above j d (omega (arith, le, other))) ∙ is)
    ]

    pub parted_with : IsPartitionedBy p (insert xs s n)
    parted_with i j d le less is = elim (cases_lt i s) [
      | inl i_less ↦ below i d i_less ∙ (elim (cases_lt j s) [
        | inl j_less ↦ parted i j d le (omega (arith, j_less, inside)) (sym (below j d j_less) ∙ is)
        | inr past ↦ front (new_passes j d past less is) i d i_less
      ])
      | inr i_past ↦ elim (cases_eq i s) [
        | inl same ↦ here i d same ∙ new_passes j d (omega (arith, le, same)) less is
        | inr other ↦
            let more : s < i = omega (arith, i_past, other) in
            above i d more ∙ parted (i - 1) (j - 1) d (omega (arith, le)) (omega (arith, less, le, more, length-insert xs s n inside))
            (sym (above j d (omega (arith, le, more))) ∙ is)
      ]
    ]

-- ---- the order of ids

module _ (ids : List (List ℕ)) where
  before_both : (id other : List ℕ) (o : Option (List ℕ)) → is_lower id other ≡ true
      → option_map_or (λ own. is_lower own id) o false ≡ true → option_map_or (λ own. is_lower own other) o false ≡ true
  before_both id other None less is = absurd (cc)
  before_both id other (Some own) less is = lower_trans own id other is less

  behind_both : (id other : List ℕ) (o : Option (List ℕ)) → is_lower id other ≡ false
      → option_map_or (λ own. is_lower own id) o false ≡ false → option_map_or (λ own. is_lower own other) o false ≡ false
  behind_both id other None fails is = refl
  behind_both id other (Some own) fails is = elim (cases_Bool (is_lower own other)) [
    | inl lower ↦ absurd (cc (lower_by own id other lower fails))
    | inr not ↦ not
  ]

  abbrev pub IsRank : (order : List ℕ) (id : List ℕ) (rank : ℕ) → Type 0
  IsRank order id rank = IsPartitionPoint (λ place. is_before ids id place ≡ true) (λ place. is_before ids id place ≡ false) order rank

  module _ (order : List ℕ) (count : ℕ) (is : IsOrderOf ids count order) (id : List ℕ) (rank : ℕ) (ranked : IsRank order id rank) where
    -- an id that is there is at its rank
    pub ranked_there : (place : ℕ) → are_once ids ≡ true → count ≡ length ids → slice_get ids place ≡ Some id
        → slice_get order rank ≡ Some place
    ranked_there place once whole there =
        let found = is.all place (omega (arith, whole, slice_get_within ids place id there)) in
        let r = found.0 in
        let not_before : is_before ids id place ≡ false =
        ap (λ (o : Option (List ℕ)). option_map_or (λ own. is_lower own id) o false) there ∙ itself id _ refl in
        let past : rank ≤ r = elim (cases_lt r rank) [
          | inl less ↦ absurd (cc (ranked.0 r 0 (omega arith) less, found.2 0))
          | inr past ↦ past
        ] in
        let inside : rank < length order = omega (arith, past, found.1) in
        let own = get_or order rank 0 in
        let own_id = get_or ids own id in
        let own_there : slice_get ids own ≡ Some own_id = slice_get-get_or ids own id (omega (arith, whole, is.within rank 0 inside)) in
        let own_not : is_lower own_id id ≡ false = rw own_there at (ranked.1 rank 0 (omega arith) inside) in
        let id_not : is_lower id own_id ≡ false = elim (cases_Bool (is_lower id own_id)) [
          | inl lower ↦
              let at_r : is_before ids own_id (get_or order r 0) ≡ true = rw (found.2 0, there) lower in
              let at_rank = is.sorted own_id rank r 0 past found.1 at_r in
              absurd (cc (rw own_there at at_rank, itself own_id _ refl))
          | inr not ↦ not
        ] in
        let same : own_id ≡ id = same_texts own_id id own_not id_not in
        let own_is : own ≡ place = sym (placed_at ids own id once (own_there ∙ ap Some same)) ∙ placed_at ids place id once there in
        slice_get-get_or order rank 0 inside ∙ ap Some own_is

    -- with one more at its rank
    pub order_with_one : slice_get ids count ≡ Some id → rank ≤ length order → IsOrderOf ids (count + 1) (insert order rank count)
    order_with_one there inside = record {
      sorted = λ other. parted_with (is_before ids other) order rank count inside (is.sorted other)
          (λ lower k d less. before_both id other _ (rw there at lower) (ranked.0 k d (omega arith) less))
          (λ fails k d past less. behind_both id other _ (rw there at fails) (ranked.1 k d past less));
      within = λ k d less. elim (cases_lt k rank) [
        | inl front ↦
            rw (get_or-insert_below order rank count d k front inside)
            (omega (arith, is.within k d (omega (arith, front, inside))))
        | inr past ↦ elim (cases_eq k rank) [
          | inl same ↦ rw (same, get_or-insert_at order rank count d inside) (omega arith)
          | inr other ↦
              let one_more : k ≡ (k - 1) + 1 = omega (arith, past, other) in
              rw (one_more, get_or-insert_above order rank count d (k - 1) (omega (arith, past, other)) inside)
              (omega (arith, is.within (k - 1) d (omega (arith, less, past, other, length-insert order rank count inside))))
        ]
      ];
      all = λ place less. elim (cases_eq place count) [
        | inl same ↦ (
          rank,
          omega (arith, length-insert order rank count inside),
          λ d.
              get_or-insert_at order rank count d inside ∙ sym same,
        )
        | inr other ↦
            let found = is.all place (omega (arith, less, other)) in
            elim (cases_lt found.0 rank) [
              | inl front ↦ (
                found.0,
                omega (arith, front, length-insert order rank count inside),
                λ d.
                    get_or-insert_below order rank count d found.0 front inside ∙ found.2 d,
              )
              | inr past ↦ (
                found.0 + 1,
                omega (arith, found.1, length-insert order rank count inside),
                λ d.
                    get_or-insert_above order rank count d found.0 past inside ∙ found.2 d,
              )
            ]
      ];
    }

front_more : (ids more : List (List ℕ)) (k : ℕ) → k < length ids → slice_get (ids ++ more) k ≡ slice_get ids k
front_more ids more k less = let there = slice_get-get_or ids k [] less in get_more ids more k _ there ∙ sym there

-- the order of the first ids is that of more
pub more_ids : (ids more : List (List ℕ)) (order : List ℕ) → IsOrderOf ids (length ids) order → IsOrderOf (ids ++ more) (length ids) order
more_ids ids more order is = record {
  sorted = λ id i j d le less now.
      let same : (k : ℕ) → k < length order → is_before (ids ++ more) id (get_or order k d) ≡ is_before ids id (get_or order k d) =
      λ k k_less. ap (λ (o : Option (List ℕ)). option_map_or (λ own. is_lower own id) o false)
      (front_more ids more _ (is.within k d k_less)) in
      same i (omega (arith, le, less)) ∙ is.sorted id i j d le less (sym (same j less) ∙ now);
  within = is.within;
  all = is.all;
}

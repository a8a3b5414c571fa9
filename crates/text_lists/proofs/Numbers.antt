-- Texts that get numbers, and marks of them.
use Rattle.std.proofs.Common.{◌≡◌, ℕ, ◌+◌, ◌<◌, Bool, true, false, cond, ◌||◌, List, [], ◌∷◌, ◌++◌, map, length, drop, get_or, slice_get}
use Rattle.std.proofs.Common.{Option, Some, None, is_some, option_map, unwrap_or, All, Bor, bytes_eq, refl, sym, ◌∙◌, ap, subst, inl, inr}
use Rattle.std.proofs.{Common.{arith, length-append, append_assoc, set}, lemmas.Bool.{true≢false, or_left, or_right, cond-true, cond-false}}
use Rattle.std.proofs.{lemmas.Bool.{cases_Bool, cases_lt, cases_eq, false_from_ne_true}, lemmas.List.{append-nil, drop_more, map-append}}
use Rattle.std.proofs.lemmas.List.{length-map, get_or-map, get_or_append_left, get_or-set_same, get_or-set_other, length-set}
use Rattle.std.proofs.lemmas.List.Elements.{All-weaker, All-head, All-tail, All-push, All-nil, All-get_or}
use Rattle.std.proofs.{lemmas.List.Folds.list_any-append, lemmas.Map.Text.btree_map_updates_str, lemmas.Option.slice_get-map}
use Rattle.std.proofs.lemmas.Option.{get_or_from_slice_get, same_Some, slice_get_within, slice_get-get_or}
use Rattle.std.proofs.{lemmas.Slice.Eq.bytes_eq-Decides, Math.Seq.get_or-append_seam}
use Rattle.std.specs.{Option.option_map_or, Ordering.nat_cmp, Cmp.Lexicographic.slice_cmp, BTreeMap.{BTreeMap, UpdatesBy}}
use Rattle.bridge_io.proofs.Texts.{bytes_eq_sym}
use Rattle.bridge_io.specs.Texts.{is_among}
use Rattle.text_lists.specs.{Lists.{list_at, merged_from, with_texts, texts_of, with_text}, Numbers.{numbers_at, number_in, IsNumbered}}
use Rattle.text_lists.specs.Numbers.{IsOnce, IsMarked, Grows, AreBelow, text_by, texts_by}

pub grows_none : (texts : List (List ℕ)) → Grows texts texts
grows_none texts = record { more = []; is = sym (append-nil texts) }

pub grows_then : {a b c : List (List ℕ)} → Grows a b → Grows b c → Grows a c
grows_then {a} one two = record {
  more = one.more ++ two.more;
  is = two.is ∙ ap (λ t. t ++ two.more) one.is
      ∙ append_assoc a one.more two.more;
}

map_where : {X Y : Type 0} (P : X → Type 0) (f g : X → Y) → ((x : X) → P x → f x ≡ g x) → (xs : List X) → All P xs → map f xs ≡ map g xs
map_where P f g same [] all = refl
map_where P f g same (x ∷ xs) all = rw (same x (All-head P x xs all), map_where P f g same xs (All-tail P x xs all)) refl

module _ {old new : List (List ℕ)} (grows : Grows old new) where
  pub below_more : (n : ℕ) → n < length old → n < length new
  below_more n below = rw (grows.is, length-append old grows.more) (omega (arith, below))

  pub text_by_more : (n : ℕ) → n < length old → text_by new n ≡ text_by old n
  text_by_more n below = rw grows.is (get_or_append_left old grows.more [] n below)

  pub are_below_more : (numbers : List ℕ) → AreBelow old numbers → AreBelow new numbers
  are_below_more numbers below = All-weaker (λ n. n < length old) (λ n. n < length new) below_more numbers below

  pub texts_by_more : (numbers : List ℕ) → AreBelow old numbers → texts_by new numbers ≡ texts_by old numbers
  texts_by_more numbers below = map_where (λ n. n < length old) (text_by new) (text_by old) text_by_more numbers below

  module _ {V : Type 0} (items : V → List ℕ) (lists : List V) (below : All (λ v. AreBelow old (items v)) lists) where
    pub lists_below_more : All (λ v. AreBelow new (items v)) lists
    lists_below_more = All-weaker (λ v. AreBelow old (items v)) (λ v. AreBelow new (items v)) (λ v. are_below_more (items v)) lists below

    pub one_list_below_more : (last : V) → AreBelow new (items last) → All (λ v. AreBelow new (items v)) (lists ++ last ∷ [])
    one_list_below_more last one = All-push (λ v. AreBelow new (items v)) lists last lists_below_more one

    pub lists_more : map (λ v. texts_by new (items v)) lists ≡ map (λ v. texts_by old (items v)) lists
    lists_more = map_where (λ v. AreBelow old (items v)) (λ v. texts_by new (items v)) (λ v. texts_by old (items v))
        (λ v. texts_by_more (items v)) lists below

    pub one_list_more : (last : V) (texts : List (List ℕ)) → texts_by new (items last) ≡ texts
        → map (λ v. texts_by new (items v)) (lists ++ last ∷ []) ≡ map (λ v. texts_by old (items v)) lists ++ texts ∷ []
    one_list_more last texts one = rw (map-append (λ v. texts_by new (items v)) lists (last ∷ []), lists_more, one) refl

-- the list at a place
module _ {V : Type 0} (items : V → List ℕ) (texts : List (List ℕ)) (lists : List V) (place : ℕ) where
  chosen : (o : Option V) → texts_by texts (option_map_or items o []) ≡ unwrap_or (option_map (λ v. texts_by texts (items v)) o) []
  chosen None = refl
  chosen (Some v) = refl

  pub list_by_numbers : texts_by texts (numbers_at items lists place) ≡ list_at (map (λ v. texts_by texts (items v)) lists) place
  list_by_numbers = chosen (slice_get lists place)
      ∙ ap (λ o. unwrap_or o []) (sym (slice_get-map (λ v. texts_by texts (items v)) lists place))

  module _ (all : All (λ v. AreBelow texts (items v)) lists) where
    below_in : (o : Option V) → slice_get lists place ≡ o → AreBelow texts (option_map_or items o [])
    below_in None is = All-nil (λ n. n < length texts)
    below_in (Some v) is = subst (λ (w : V). AreBelow texts (items w)) (get_or_from_slice_get lists place v v is)
        (All-get_or (λ v. AreBelow texts (items v)) lists place v (slice_get_within lists place v is) all)

    pub numbers_below : AreBelow texts (numbers_at items lists place)
    numbers_below = below_in (slice_get lists place) refl

slice_more : (texts : List (List ℕ)) (x : List ℕ) (k : ℕ) → k < length texts → slice_get (texts ++ x ∷ []) k ≡ slice_get texts k
slice_more texts x k below =
    slice_get-get_or (texts ++ x ∷ []) k [] (rw (length-append texts (x ∷ [])) (omega (arith, below)))
    ∙ ap Some (get_or_append_left texts (x ∷ []) [] k below) ∙ sym (slice_get-get_or texts k [] below)

slice_end : (texts : List (List ℕ)) (x : List ℕ) → slice_get (texts ++ x ∷ []) (length texts) ≡ Some x
slice_end texts x =
    slice_get-get_or (texts ++ x ∷ []) (length texts) [] (rw (length-append texts (x ∷ [])) (omega arith))
    ∙ ap Some (get_or-append_seam texts x [] [])

there_more : (b c t : Bool) (o : Option ℕ) (n : ℕ) → c ≡ b → is_some o ≡ t → is_some (cond b (Some n) o) ≡ (t || (c || false))
there_more true c true o n same is = refl
there_more true c false o n same is = rw same refl
there_more false c true o n same is = is
there_more false c false o n same is = rw same is

pub once_of : {numbers : BTreeMap (Bor (List ℕ)) ℕ} {texts : List (List ℕ)} → IsNumbered numbers texts → IsOnce texts
once_of is = record { same = λ text m n at_m at_n. same_Some m n (sym (is.number text m at_m) ∙ is.number text n at_n) }

-- a text gets the next number
module _ (m n : BTreeMap (Bor (List ℕ)) ℕ) (texts : List (List ℕ)) (x : List ℕ) (is : IsNumbered m texts)
    (absent : is_among x texts ≡ false)
    (updates : UpdatesBy (λ a b. slice_cmp nat_cmp a.now b.now) (λ b. slice_cmp nat_cmp x b.now) m n (Some (length texts))) where
  read : (q : List ℕ) → number_in n q ≡ cond (bytes_eq x q) (Some (length texts)) (number_in m q)
  read q = btree_map_updates_str x m n (Some (length texts)) updates q

  read_other : (q : List ℕ) → bytes_eq x q ≡ false → number_in n q ≡ number_in m q
  read_other q isnt = read q ∙ ap (λ b. cond b (Some (length texts)) (number_in m q)) isnt

  read_same : (q : List ℕ) → bytes_eq x q ≡ true → number_in n q ≡ Some (length texts)
  read_same q is_so = read q ∙ ap (λ b. cond b (Some (length texts)) (number_in m q)) is_so

  known_other : (q : List ℕ) (k : ℕ) → number_in m q ≡ Some k → bytes_eq x q ≡ false
  known_other q k known = false_from_ne_true (bytes_eq x q) (λ is_so.
      true≢false (sym (ap is_some known) ∙ is.there q ∙ ap (λ t. is_among t texts) (sym ((bytes_eq-Decides x q).0 is_so)) ∙ absent))

  at_more : (q : List ℕ) (k : ℕ) → number_in n q ≡ Some k → slice_get (texts ++ x ∷ []) k ≡ Some q
  at_more q k found = elim (cases_Bool (bytes_eq x q)) [
    | inl is_so ↦ let ends : length texts ≡ k = same_Some (length texts) k (sym (read_same q is_so) ∙ found) in
        ap (slice_get (texts ++ x ∷ [])) (sym ends) ∙ slice_end texts x ∙ ap Some ((bytes_eq-Decides x q).0 is_so)
    | inr isnt ↦ let here : slice_get texts k ≡ Some q = is.at q k (sym (read_other q isnt) ∙ found) in
        slice_more texts x k (slice_get_within texts k q here) ∙ here
  ]

  number_more : (q : List ℕ) (k : ℕ) → slice_get (texts ++ x ∷ []) k ≡ Some q → number_in n q ≡ Some k
  number_more q k here = elim (cases_lt k (length texts)) [
    | inl below ↦ let known : number_in m q ≡ Some k = is.number q k (sym (slice_more texts x k below) ∙ here) in
        read_other q (known_other q k known) ∙ known
    | inr beyond ↦
        let within : k < length (texts ++ x ∷ []) = slice_get_within (texts ++ x ∷ []) k q here in
        let ends : k ≡ length texts = omega (arith, beyond, rw (length-append texts (x ∷ [])) at within) in
        let same : x ≡ q = same_Some x q (sym (slice_end texts x) ∙ ap (slice_get (texts ++ x ∷ [])) (sym ends) ∙ here) in
        read_same q ((bytes_eq-Decides x q).1 same) ∙ ap Some (sym ends)
  ]

  pub numbered_more : IsNumbered n (texts ++ x ∷ [])
  numbered_more = record {
    there = λ q. ap is_some (read q)
        ∙ there_more (bytes_eq x q) (bytes_eq q x) (is_among q texts) (number_in m q) (length texts) (bytes_eq_sym q x) (is.there q)
        ∙ sym (list_any-append (bytes_eq q) texts (x ∷ []));
    at = at_more;
    number = number_more;
  }

or_none : (b : Bool) → (b || (false || false)) ≡ b
or_none true = refl
or_none false = refl

-- a text is marked as found
module _ (texts : List (List ℕ)) (seen : List Bool) (found : List (List ℕ)) (marked : IsMarked texts seen found) (i : ℕ)
    (below : i < length texts) where
  here : is_among (text_by texts i) found ≡ get_or seen i false
  here = sym (marked.marks i below)

  pub with_known : get_or seen i false ≡ true → with_text found (text_by texts i) ≡ found
  with_known known = cond-true _ _ _ (here ∙ known)

  pub with_fresh : get_or seen i false ≡ false → with_text found (text_by texts i) ≡ found ++ text_by texts i ∷ []
  with_fresh fresh = cond-false _ _ _ (here ∙ fresh)

  module _ (once : IsOnce texts) where
    more : (n : ℕ) → is_among (text_by texts n) (found ++ text_by texts i ∷ [])
        ≡ (is_among (text_by texts n) found || (bytes_eq (text_by texts n) (text_by texts i) || false))
    more n = list_any-append (bytes_eq (text_by texts n)) found (text_by texts i ∷ [])

    apart : (n : ℕ) → n < length texts → (n ≡ i → ⊥) → bytes_eq (text_by texts n) (text_by texts i) ≡ false
    apart n within other = false_from_ne_true _ (λ is_so. other (once.same (text_by texts i) n i
        (slice_get-get_or texts n [] within ∙ ap Some ((bytes_eq-Decides (text_by texts n) (text_by texts i)).0 is_so))
        (slice_get-get_or texts i [] below)))

    mark_more : (n : ℕ) → n < length texts → get_or (set seen i true) n false ≡ is_among (text_by texts n) (found ++ text_by texts i ∷ [])
    mark_more n within = elim (cases_eq n i) [
      | inl same ↦ ap (λ k. get_or (set seen i true) k false) same ∙ get_or-set_same seen i true false (rw marked.room below)
          ∙ sym (more n ∙ or_right _ _ (or_left _ _ ((bytes_eq-Decides (text_by texts n) (text_by texts i)).1 (ap (text_by texts) same))))
      | inr other ↦ get_or-set_other seen i n true false other ∙ marked.marks n within
          ∙ sym (more n ∙ ap (λ b. is_among (text_by texts n) found || (b || false)) (apart n within other)
          ∙ or_none (is_among (text_by texts n) found))
    ]

    pub marked_more : IsMarked texts (set seen i true) (found ++ text_by texts i ∷ [])
    marked_more = record { room = length-set seen i true ∙ marked.room; marks = mark_more }

abbrev now : Bor (List ℕ) → List ℕ
now text = text.now

pub numbered_next : (m n : BTreeMap (Bor (List ℕ)) ℕ) (texts : List (Bor (List ℕ))) (x : Bor (List ℕ)) (k : ℕ) → k ≡ length texts
    → IsNumbered m (texts_of texts) → is_among x.now (texts_of texts) ≡ false
    → UpdatesBy (λ a b. slice_cmp nat_cmp a.now b.now) (λ b. slice_cmp nat_cmp x.now b.now) m n (Some k)
    → IsNumbered n (texts_of (texts ++ x ∷ []))
numbered_next m n texts x k is_next is absent updates = rw (map-append now texts (x ∷ []))
    (numbered_more m n (texts_of texts) x.now is absent
    (subst (λ (i : ℕ). UpdatesBy (λ a b. slice_cmp nat_cmp a.now b.now) (λ b. slice_cmp nat_cmp x.now b.now) m n (Some i)) (is_next
    ∙ sym (length-map texts now)) updates))

pub marked_next : (texts : List (Bor (List ℕ))) (seen : List Bool) (found : List (Bor (List ℕ))) (i : ℕ) (d : Bor (List ℕ))
    → i < length texts → IsOnce (texts_of texts)
    → IsMarked (texts_of texts) seen (texts_of found)
    → IsMarked (texts_of texts) (set seen i true) (texts_of (found ++ get_or texts i d ∷ []))
marked_next texts seen found i d below once marked = rw (map-append now found (get_or texts i d ∷ []), ← get_or-map now texts i d [] below)
    (marked_more (texts_of texts) seen (texts_of found) marked i (rw (length-map texts now) below) once)

pub merged_more : (all : List (List (List ℕ))) (found next : List (List ℕ)) (places : List ℕ) (i : ℕ) → i < length places
    → next ≡ with_texts found (list_at all (get_or places i 0))
    → merged_from all next (drop (i + 1) places) ≡ merged_from all found (drop i places)
merged_more all found next places i below is = rw (drop_more places i 0 below, is) refl

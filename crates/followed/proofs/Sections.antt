-- The durations of a track are printed section by section, and what is listed stays in order.
use Rattle.std.proofs.Common.{◌≡◌, ℕ, suc, ◌-◌, ◌<◌, List, [], ◌∷◌, ◌++◌, map, Option, Some, None, refl, subst, arith, ◌↔◌, zero, ◌+◌, ◌≤◌}
use Rattle.std.{proofs.{Common.{Bool, true, drop}, lemmas.Bool.Decides.nat_tests}, specs.Prelude.{filter, All, flat_map}}
use Rattle.std.specs.List.{range_with_len}
use Rattle.exact_time.specs.{Time.{Time, IsTime, difference, AreRising}, Floor.floor_in, Rounding.{IsRising, differences, printed}}
use Rattle.exact_time.{specs.Laws.SumsAreFloors, proofs.TimeOrder.{IsAtMost-from_before, before-true, before-from, before_then_at_most}}
use Rattle.followed.specs.Durations.{Listed, Last, Told, told, told_behind, last_behind, last_with, begun_by, duration_behind, durations}
use Rattle.followed.specs.{Durations.{ends, section_durations, is_in}, Order.{InOrder, IsElsewhere, Behind, BehindLast, AreInOrder}}
use Rattle.followed.specs.{Order.{IsTimed, Listing, all_listed, is_new, new_of, raised}, Laws.{SectionsSum, AllStayInOrder}}
use Rattle.followed.specs.{Laws.{SectionsAreCounted, SectionIsInOrder, SectionsAreInOrder}, Places.StaysTrue}

module _ {A : Type 0} where
  pub goes_on : (u : ℕ) (last : Option Last) (all more : List (Listed A))
      → told_behind u last (all ++ more) ≡ told_behind u last all ++ told_behind u (last_behind last all) more
  goes_on u last [] more = refl
  goes_on u last (x ∷ all) more = cc (goes_on u (Some (last_with last x)) all more)

  abbrev told_in : ℕ → List (Told A) → List ℕ
  told_in section ts = durations (filter (λ t. is_in section t.segment) ts)

  -- the floors of the times from a section's first segment on
  abbrev floors : ℕ → Time → List (Listed A) → List ℕ
  floors u first xs = map (λ end. floor_in u (difference end first)) (ends xs)

  pub last_section : (last : Option Last) (x : Listed A) → (last_with last x).section ≡ x.section
  last_section last x = grind (arith, nat_tests)

  none_behind : (u section : ℕ) (l : Last) (xs : List (Listed A)) → section < l.section → InOrder (Some l) xs
      → (filter (is_in section) xs ≡ []) × (told_in section (told_behind u (Some l) xs) ≡ [])
  none_behind u section l [] less order = (refl, refl)
  none_behind u section l (x ∷ xs) less (timed, behind, order) =
      grind (arith, nat_tests, last_section (Some l) x, none_behind u section (last_with (Some l) x) xs)

  within : (u : ℕ) (l : Last) (xs : List (Listed A)) → InOrder (Some l) xs → (told_in l.section (told_behind u (Some l) xs) ≡ differences
      (floor_in u (difference l.end l.first)) (floors u l.first (filter (is_in l.section) xs))) × IsRising l.end
      (ends (filter (is_in l.section) xs))
  within u l [] order = (refl, tt)
  within u l (x ∷ xs) (timed, behind, order) =
      let rest = within u (record l { end = x.end }) xs in
      let none = none_behind u l.section (last_with (Some l) x) xs in
      grind (arith, nat_tests, timed, rest, none, last_section (Some l) x, IsAtMost-from_before l.end x.end)

  pub begins : (u : ℕ) (last : Option Last) (x : Listed A) → IsElsewhere x.section last
      → (duration_behind u last x ≡ floor_in u (difference x.end x.start) - 0) × (last_with last x ≡ begun_by x)
  begins u last x elsewhere = grind (arith, nat_tests)

  abbrev Rises : List (Listed A) → Type 0
  Rises [] = Unit {0}
  Rises (x ∷ xs) = IsTime x.start × IsRising x.start (ends (x ∷ xs))

  pub before_it : (u section : ℕ) (last : Option Last) (xs : List (Listed A)) → IsElsewhere section last → InOrder last xs →
      (told_in section (told_behind u last xs) ≡ section_durations u (filter (is_in section) xs)) × Rises (filter (is_in section) xs)
  before_it u section last [] elsewhere order = (refl, tt)
  before_it u section last (x ∷ xs) elsewhere (timed, behind, order) =
      let rest = before_it u section (Some (last_with last x)) xs in
      let none = none_behind u section (last_with last x) xs in
      grind (arith, nat_tests, timed, last_section last x, begins u last x, within u (begun_by x) xs, rest, none)

  pub sections_sum : SumsAreFloors → SectionsSum A
  sections_sum floors u section all x xs k end order own at =
      let is = before_it u section None all tt order in
      let rises : Rises (x ∷ xs) = subst Rises own is.1 in
      rw (is.0, own) (floors u x.start (ends (x ∷ xs)) k end rises.0 rises.1 at)

  -- ---- rounders
  pub in_section : (u : ℕ) (l : Last) (xs : List (Listed A)) → All (λ x. x.section ≡ l.section) xs
      → durations (told_behind u (Some l) xs) ≡ differences (floor_in u (difference l.end l.first)) (floors u l.first xs)
  in_section u l [] same = refl
  in_section u l (x ∷ xs) same =
      let rest = in_section u (record l { end = x.end }) xs (λ j d within. same (suc j) d (omega arith)) in
      grind (arith, nat_tests, same 0 x, rest)

  pub new_section : (u : ℕ) (last : Option Last) (x : Listed A) (xs : List (Listed A)) → IsElsewhere x.section last
      → All (λ y. y.section ≡ x.section) xs → durations (told_behind u last (x ∷ xs)) ≡ printed u x.start (ends (x ∷ xs))
  new_section u last x xs elsewhere same = grind (arith, nat_tests, begins u last x elsewhere, in_section u (begun_by x) xs same)

  -- ---- sections one after another
  pub told_anew : (u : ℕ) (last : Option Last) (section : ℕ) (xs : List (Listed A)) → All (λ x. x.section ≡ section) xs
      → IsElsewhere section last → told_behind u last xs ≡ told u xs
  told_anew u last section [] own elsewhere = refl
  told_anew u last section (x ∷ xs) own elsewhere = grind (arith, nat_tests, own 0 x, begins u last x)

  pub elsewhere_behind : (last : Option Last) (later : ℕ) (xs : List (Listed A)) → All (λ x. x.section < later) xs → IsElsewhere later last
      → IsElsewhere later (last_behind last xs)
  elsewhere_behind last later [] below is = is
  elsewhere_behind last later (x ∷ xs) below is =
      elsewhere_behind (Some (last_with last x)) later xs (λ j d less. below (suc j) d (omega arith)) (grind (arith, nat_tests, below 0 x))

-- what lies behind the one lies behind the other
abbrev IsNoEarlier : Option Last → Last → Type 0
IsNoEarlier last l = (section : ℕ) (end : Time) → IsTime end → Behind l section end → BehindLast last section end

module _ {A : Type 0} where
  is_new_iff : (last : Option Last) (x : Listed A) → is_new last x ≡ true ↔ BehindLast last x.section x.end
  is_new_iff None x = (λ is. tt, λ behind. refl)
  is_new_iff (Some l) x =
      (λ is. grind (arith, nat_tests, before-true l.end x.end), λ behind. grind (arith, nat_tests, before-from l.end x.end))

  same_end : (last former : Option Last) (x : Listed A) → IsNoEarlier (Some (last_with last x)) (last_with former x)
  same_end last former x section end is behind = grind (arith, nat_tests)

  later_end : (last former : Option Last) (x : Listed A) → BehindLast last x.section x.end → IsNoEarlier last (last_with former x)
  later_end None former x here section end is behind = tt
  later_end (Some k) former x here section end is behind =
      grind (arith, nat_tests, before_then_at_most k.end x.end end is, IsAtMost-from_before x.end end)

  in_order_behind : (last : Option Last) (l : Last) (xs : List (Listed A)) → IsNoEarlier last l → InOrder (Some l) xs → InOrder last xs
  in_order_behind last l [] also order = tt
  in_order_behind last l (x ∷ xs) also (timed, behind, order) =
      let rest = in_order_behind (Some (last_with last x)) (last_with (Some l) x) xs (same_end last (Some l) x) order in
      (timed, also x.section x.end timed.end behind, rest)

  pub all_behind : (last : Option Last) (l : Last) (xs : List (Listed A)) → IsNoEarlier last l → InOrder (Some l) xs
      → All (λ x. BehindLast last x.section x.end) xs
  all_behind last l [] also order j d within = absurd (omega arith)
  all_behind last l (x ∷ xs) also (timed, behind, order) zero d within = also x.section x.end timed.end behind
  all_behind last l (x ∷ xs) also (timed, behind, order) (suc j) d within =
      let later = later_end last (Some l) x (also x.section x.end timed.end behind) in
      all_behind last (last_with (Some l) x) xs later order j d (omega arith)

  pub order-append : (last : Option Last) (xs ys : List (Listed A)) → InOrder last xs → InOrder (last_behind last xs) ys
      → InOrder last (xs ++ ys)
  order-append last [] ys order later = later
  order-append last (x ∷ xs) ys (timed, behind, order) later = (timed, behind, order-append (Some (last_with last x)) xs ys order later)

  pub stay_new : (last former : Option Last) (xs : List (Listed A)) → InOrder former xs → StaysTrue (is_new last) xs
  stay_new last former [] order = tt
  stay_new last former (x ∷ xs) (timed, behind, order) =
      let later = λ (is : is_new last x ≡ true). later_end last former x ((is_new_iff last x).0 is) in
      let rest = stay_new last (Some (last_with former x)) xs order in
      (λ is j d within. (is_new_iff last _).1 (all_behind last (last_with former x) xs (later is) order j d within), rest)

  -- by one that only passes what lies behind the last one
  pub later_in_order : (test : Listed A → Bool) (last former : Option Last) (xs : List (Listed A))
      → All (λ x. test x ≡ true → BehindLast last x.section x.end) xs → InOrder former xs → InOrder last (filter test xs)
  later_in_order test last former [] behinds order = tt
  later_in_order test last former (x ∷ xs) behinds (timed, behind, order) =
      let rest = later_in_order test (Some (last_with last x)) (Some (last_with former x)) xs
      (λ j d within is. all_behind (Some (last_with last x)) (last_with former x) xs (same_end last former x) order j d within) order in
      let others = later_in_order test last (Some (last_with former x)) xs (λ j d within is. behinds (suc j) d (omega arith) is) order in
      grind (arith, nat_tests, timed, behinds 0 x, rest, others)

  pub all_stay_in_order : AllStayInOrder A
  all_stay_in_order all listing order order_listed =
      let last : Option Last = last_behind None all in
      order-append None all (new_of all listing) order (later_in_order (is_new (raised listing.resets last)) last None listing.listed
      (λ j d within is. grind (arith, (is_new_iff (raised listing.resets last) _).0 is)) order_listed)

  pub histories_in_order : (all : List (Listed A)) (history : List (Listing A)) → InOrder None all → AreInOrder history
      → InOrder None (all_listed all history)
  histories_in_order all [] order orders = order
  histories_in_order all (listing ∷ history) order (one, orders) =
      histories_in_order (all ++ new_of all listing) history (all_stay_in_order all listing order one) orders

  pub from_place : (first : ℕ) (last : Option Last) (xs : List (Listed A)) → InOrder last xs → InOrder None (drop first xs)
  from_place zero last (x ∷ xs) (timed, behind, order) =
      (timed, tt, in_order_behind (Some (last_with None x)) (last_with last x) xs (same_end None last x) order)
  from_place (suc first) last (x ∷ xs) (timed, behind, order) = from_place first (Some (last_with last x)) xs order
  from_place first last xs order = grind arith

  counted : (section : ℕ) (xs : List (Listed A)) → All (λ y. section ≤ y.section) xs
      → map (λ (y : Listed A). section + (y.section - section)) xs ≡ map (λ y. y.section) xs
  counted section [] least = refl
  counted section (x ∷ xs) least = grind (arith, least 0 x, counted section xs (λ j d within. least (suc j) d (omega arith)))

  pub sections_are_counted : SectionsAreCounted A
  sections_are_counted x xs (timed, behind, order) =
      let later = all_behind (Some (begun_by x)) (begun_by x) xs (λ section end is more. more) order in
      grind (arith, counted x.section xs (λ j d within. grind (arith, later j d within)))

  -- ---- what a frame lists
  rising_in : (section : ℕ) (last : Option Last) (x : Listed A) (xs : List (Listed A)) → All IsTimed (x ∷ xs)
      → All (λ y. y.section ≡ section) (x ∷ xs) → AreRising (ends (x ∷ xs)) → BehindLast last x.section x.end → InOrder last (x ∷ xs)
  rising_in section last x [] timed same rising behind = (timed 0 x (omega arith), behind, tt)
  rising_in section last x (y ∷ ys) timed same (here, rising) behind =
      let rest = rising_in section (Some (last_with last x)) y ys (λ j d less. timed (suc j) d (omega arith))
      (λ j d less. same (suc j) d (omega arith)) rising (grind (arith, nat_tests, same 0 x, same 1 x)) in
      (timed 0 x (omega arith), behind, rest)

  pub section_is_in_order : SectionIsInOrder A
  section_is_in_order section [] timed same rising = tt
  section_is_in_order section (x ∷ xs) timed same rising = rising_in section None x xs timed same rising tt

  pub begins_in_order : (last : Option Last) (x : Listed A) (xs : List (Listed A)) → IsElsewhere x.section last → InOrder None (x ∷ xs)
      → InOrder last (x ∷ xs)
  begins_in_order last x xs elsewhere (timed, first, later) = grind (arith, nat_tests, timed, later, begins 0 last x elsewhere)

  pub sections_are_in_order : SectionsAreInOrder A
  sections_are_in_order xs ys y order later below = order-append None xs (y ∷ ys) order
      (begins_in_order (last_behind None xs) y ys (elsewhere_behind None y.section xs below tt) later)

  in_order_anew : (last : Option Last) (section : ℕ) (xs : List (Listed A)) → All (λ x. x.section ≡ section) xs → IsElsewhere section last
      → InOrder None xs → InOrder last xs
  in_order_anew last section [] own elsewhere order = tt
  in_order_anew last section (x ∷ xs) own elsewhere order = begins_in_order last x xs (grind (arith, own 0 x)) order

-- lists of segments, each of them of one section, one after another
module _ {A : Type 0} (number : ℕ → ℕ) (list : ℕ → List (Listed A)) (limit : ℕ)
    (rises : (s r : ℕ) → s < r → r < limit → number s < number r) (own : (s : ℕ) → All (λ x. x.section ≡ number s) (list s)) where
  later_elsewhere : (last : Option Last) (a s : ℕ) → a < s → s < limit → IsElsewhere (number s) last
      → IsElsewhere (number s) (last_behind last (list a))
  later_elsewhere last a s more less =
      elsewhere_behind last (number s) (list a) (λ j d there. omega (arith, own a j d there, rises a s more less))

  pub told_apart : (u : ℕ) (last : Option Last) (a n : ℕ) → a + n ≤ limit → ((s : ℕ) → a ≤ s → s < limit → IsElsewhere (number s) last)
      → told_behind u last (flat_map list (range_with_len a n)) ≡ flat_map (λ s. told u (list s)) (range_with_len a n)
  told_apart u last a zero le elsewhere = refl
  told_apart u last a (suc n) le elsewhere =
      let one = told_anew u last (number a) (list a) (own a) (elsewhere a (omega arith) (omega arith)) in
      let rest = told_apart u (last_behind last (list a)) (a + 1) n (omega arith)
      (λ s more less. later_elsewhere last a s (omega arith) less (elsewhere s (omega arith) less)) in
      cc (goes_on u last (list a) (flat_map list (range_with_len (a + 1) n)), one, rest)

  pub apart_in_order : ((s : ℕ) → InOrder None (list s)) → (last : Option Last) (a n : ℕ) → a + n ≤ limit
      → ((s : ℕ) → a ≤ s → s < limit → IsElsewhere (number s) last) → InOrder last (flat_map list (range_with_len a n))
  apart_in_order order last a zero le elsewhere = tt
  apart_in_order order last a (suc n) le elsewhere =
      let one = in_order_anew last (number a) (list a) (own a) (elsewhere a (omega arith) (omega arith)) (order a) in
      order-append last (list a) (flat_map list (range_with_len (a + 1) n)) one (apart_in_order order (last_behind last (list a)) (a + 1) n
      (omega arith) (λ s more less. later_elsewhere last a s (omega arith) less (elsewhere s (omega arith) less)))

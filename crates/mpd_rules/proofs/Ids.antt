-- The ids of the Periods of a dynamic MPD.
use Rattle.std.proofs.Common.{◌≡◌, ℕ, ◌||◌, not, Bool, true, false, List, [], ◌∷◌, ◌++◌, All, map, Option, Some, None, refl, sym, ◌∙◌, ap}
use Rattle.std.proofs.{Common.{subst, inl, inr}, lemmas.Bool.{and_parts, cases_Bool, or_parts}, lemmas.List.Concat.flat_map-append}
use Rattle.std.proofs.lemmas.Simd.{map-map}
use Rattle.std.proofs.lemmas.List.Elements.{All-cons, All-head, All-map, All-nil, All-tail, All-weaker}
use Rattle.std.proofs.lemmas.List.Folds.{list_any-append, list_any_none}
use Rattle.std.specs.Prelude.{bytes_eq, codes, filter, find, flat_map, if◌then◌else◌, is_none, is_some, option_map, unwrap_or}
use Rattle.std.specs.List.{list_any}
use Rattle.bridge_io.proofs.Texts.{same_bytes}
use Rattle.mpd_tree.specs.{Trees.{Attribute, Head, Forest, nothing, element, Element}, Views.{attribute_named, side_by_side}}
use Rattle.mpd_profile.specs.{declared.fault.RuleFault.RuleFault, declared.fault.RuleFault.TheVariants.{Missing, Value}}
use Rattle.mpd_profile.specs.{declared.listed.Addressing.Addressing, declared.listed.Addressing.TheVariants.Segments as OneByOne}
use Rattle.mpd_profile.specs.{declared.listed.Listed.Listed, declared.listed.Listed.TheVariants.{Mpd, Period}, Elements.child_of}
use Rattle.mpd_profile.specs.{Heads.{is_dynamic, is_named}, LeftOut.is_left_out}
use Rattle.mpd_profile.specs.Refusals.{attribute_told, feature_refusals, has_id, has_no_type, is_other_value, is_repeated_id, is_same_id}
use Rattle.mpd_profile.specs.Refusals.{lacks, refusals_of, required_of, root_refusals, value_refusals, values_at}
use Rattle.mpd_profile.specs.Visits.{Parent, Visit, inside, parent_in, root_parent, root_visit, visits_in}
use Rattle.mpd_levels.specs.Segments.{Segments, segments_of}
use Rattle.mpd_rules.specs.{declared.rows.PeriodRow.PeriodRow, Kept.{is_kept, periods_of}}
use Rattle.mpd_rules.specs.Laws.{HasIdsOnce, HaveIdsOnce, HaveOwnIds, PeriodIdsDiffer, are_once, ids_of}
use Rattle.mpd_rules.specs.{Periods.{bounds_from, end_said, first_start, start_of, timed_of, total_of}, Readings.id_of}
use Rattle.mpd_rules.specs.Rules.{all_refusals, dash_values, refusals_behind, segments_refused, typed_mpd_of}
use Rattle.mpd_rules.specs.Typed.{TypedMpd, facts_of, period_of, period_with, values_with}
use Rattle.mpd_rules.specs.{Built.{period_shown, periods_shown}, Held.keyed, Periods.timed_periods, declared.facts.Facts.Facts}
use Rattle.mpd_levels.specs.declared.tables.Tables.{Tables}
use Rattle.mpd_rules.proofs.Refusing.{none_told}

-- ---- nothing told

none_both : {X : Type 0} (xs ys : List X) → xs ++ ys ≡ [] → (xs ≡ []) × (ys ≡ [])
none_both [] ys none = (refl, none)
none_both (x ∷ xs) ys none = absurd (cc)

untold : {X : Type 0} (b : Bool) (x : X) → (if b then x ∷ [] else []) ≡ [] → b ≡ false
untold true x none = absurd (cc)
untold false x none = refl

-- one that is found among some of which nothing is told
found_untold : {X Y : Type 0} (f : X → List Y) (test : X → Bool) (xs : List X) (x : X) → flat_map f xs ≡ [] → find test xs ≡ Some x
    → (f x ≡ []) × (test x ≡ true)
found_untold f test [] x none is = absurd (cc)
found_untold f test (y ∷ ys) x none is =
    let both = none_both (f y) (flat_map f ys) none in
    elim (cases_Bool (test y)) [
      | inl here ↦ let same : y ≡ x = cc (rw here at is) in rw (← same) (both.0, here)
      | inr other ↦ found_untold f test ys x both.1 (rw other at is)
    ]

abbrev id_said : {X : Type 0} → PeriodRow X → List ℕ
id_said period = unwrap_or period.id []

abbrev id_in : Element → List ℕ
id_in e = unwrap_or (id_of e) []

same_said : (o : Option (List ℕ)) (id : List ℕ) → is_some o ≡ true → is_same_id o id ≡ bytes_eq (unwrap_or o []) id
same_said None id there = absurd (cc there)
same_said (Some other) id there = refl

module _ (addressing : Addressing) (root : Head) where
  abbrev parent : Parent
  parent = record { listed = Mpd; head = root; dynamic = true }

  abbrev visit_as : List Head → Element → Option Listed → Visit
  visit_as before e o = record { parent = Some parent; before = before; listed = o; head = e.head; dynamic = true }

  -- a Period has an id that none of some elements before it has
  record IsNew (before : List Head) (e : Element) : Type 0 where
    there : is_some (id_of e) ≡ true
    new : list_any (has_id (id_in e)) before ≡ false

  -- ---- a Period

  module _ (before : List Head) (e : Element) where
    abbrev told : Attribute → List RuleFault
    told a = attribute_told addressing (visit_as before e (Some Period)) Period a

    by_attribute : (o : Option Attribute) → attribute_named (codes "id") e.head.attributes ≡ o
        → is_none (option_map (λ (a : Attribute). a.value) o) ≡ false → flat_map told e.head.attributes ≡ []
        → (is_some (option_map (λ (a : Attribute). a.value) o) ≡ true) ×
        (list_any (has_id (unwrap_or (option_map (λ (a : Attribute). a.value) o) [])) before ≡ false)
    by_attribute None is lacking none = absurd (cc lacking)
    by_attribute (Some a) is lacking none =
        let found = found_untold told (λ (b : Attribute). bytes_eq b.name (codes "id")) e.head.attributes a none is in
        let v = visit_as before e (Some Period) in
        let other = is_other_value addressing Period a in
        let own = (or_parts other (is_repeated_id v Period a) (untold (other || is_repeated_id v Period a) (Value a.place) found.0)).1 in
        (refl, rw found.1 at own)

    visit_new : values_at addressing (visit_as before e (Some Period)) ≡ [] → IsNew before e
    visit_new none =
        let some = list_any (lacks e.head) (required_of (Some Period) true) in
        let lacking = some || has_no_type (Some Period) (Some parent) e.head in
        let both = none_both (if lacking then Missing e.head.place ∷ [] else []) (flat_map told e.head.attributes) none in
        let there = (or_parts some (has_no_type (Some Period) (Some parent) e.head) (untold lacking (Missing e.head.place) both.0)).0 in
        let said = by_attribute (attribute_named (codes "id") e.head.attributes) refl
        (or_parts (lacks e.head (codes "id")) false there).0 both.1 in
        record { there = said.0; new = said.1 }

    abbrev visits_as : Option Listed → List Visit
    visits_as o = visit_as before e o ∷ inside o (λ l. visits_in addressing (parent_in parent l e.head) [] e.children)

    abbrev NoneIn : Option Listed → Type 0
    NoneIn o = flat_map (values_at addressing) (if is_left_out root o e then [] else visits_as o) ≡ []

    one_new : NoneIn (child_of addressing Mpd e.head.name) → is_kept Period (codes "Period") root e ≡ true → IsNew before e
    one_new none kept =
        let parts = and_parts (is_named (codes "Period") e) (not (is_left_out root (Some Period) e)) kept in
        let named : child_of addressing Mpd e.head.name ≡ Some Period = ap (child_of addressing Mpd)
        (same_bytes e.head.name (codes "Period") parts.0) in
        let read : is_left_out root (Some Period) e ≡ false = kept_in (is_left_out root (Some Period) e) parts.1 in
        visit_new (none_both (values_at addressing (visit_as before e (Some Period))) _ (rw read at (subst NoneIn named none))).0
      where
        kept_in : (b : Bool) → not b ≡ true → b ≡ false
        kept_in true is = absurd (cc is)
        kept_in false is = refl

  -- ---- Periods one after another

  -- each is new behind some elements, and none has the id of another one
  record AreNew (before : List Head) (es : List Element) : Type 0 where
    each : All (IsNew before) es
    once : are_once (map id_in es) ≡ true

  -- one that is new behind an element is new before it, and doesn't have its id
  sooner : (before : List Head) (e x : Element) → IsNew (before ++ e.head ∷ []) x → (IsNew before x) × (has_id (id_in x) e.head ≡ false)
  sooner before e x is =
      let test = has_id (id_in x) in
      let both = or_parts (list_any test before) (list_any test (e.head ∷ [])) (sym (list_any-append test before (e.head ∷ [])) ∙ is.new) in
      (record { there = is.there; new = both.0 }, (or_parts (test e.head) false both.1).0)

  with_first : (before : List Head) (e : Element) (es : List Element) → IsNew before e → is_named (codes "Period") e ≡ true
      → AreNew (before ++ e.head ∷ []) es → AreNew before (e ∷ es)
  with_first before e es first named later =
      let others = λ (x : Element) (is : IsNew (before ++ e.head ∷ []) x). sym (same_said (id_of e) (id_in x) first.there)
      ∙ rw named at (sooner before e x is).1 in
      let apart = list_any_none (bytes_eq (id_in e)) (map id_in es) (All-map (λ id. bytes_eq (id_in e) id ≡ false) id_in es
      (All-weaker (IsNew (before ++ e.head ∷ [])) (λ x. bytes_eq (id_in e) (id_in x) ≡ false) others es later.each)) in
      record {
        each = All-cons (IsNew before) e es first (All-weaker (IsNew (before ++ e.head ∷ [])) (IsNew before)
            (λ x is. (sooner before e x is).0) es later.each);
        once = rw (apart, later.once) refl;
      }

  without : (before : List Head) (e : Element) (es : List Element) → AreNew (before ++ e.head ∷ []) es → AreNew before es
  without before e es later = record {
    each = All-weaker (IsNew (before ++ e.head ∷ [])) (IsNew before) (λ x is. (sooner before e x is).0) es later.each;
    once = later.once;
  }

  all_new : (before : List Head) (children : Forest) → flat_map (values_at addressing) (visits_in addressing parent before children) ≡ []
      → AreNew before (filter (is_kept Period (codes "Period") root) (side_by_side children))
  unfolding visits_in
  all_new before nothing none = record { each = All-nil (IsNew before); once = refl }
  all_new before (element head children others) none =
      let e : Element = record { head = head; children = children } in
      let o = child_of addressing Mpd head.name in
      let first = if is_left_out root o e then [] else visits_as before e o in
      let rest = visits_in addressing parent (before ++ head ∷ []) others in
      let both = none_both (flat_map (values_at addressing) first) (flat_map (values_at addressing) rest)
      (sym (flat_map-append (values_at addressing) first rest) ∙ none) in
      let later = all_new (before ++ head ∷ []) others both.1 in
      let es = filter (is_kept Period (codes "Period") root) (side_by_side others) in
      elim (cases_Bool (is_kept Period (codes "Period") root e)) [
        | inl here ↦ rw here (with_first before e es (one_new before e both.0 here)
            (and_parts (is_named (codes "Period") e) (not (is_left_out root (Some Period) e)) here).0 later)
        | inr other ↦ rw other (without before e es later)
      ]

-- ---- an MPD

module _ {X : Type 0} (told : List Element → X) (tree : Element) where
  ids_said : (total default : Option ℕ) (periods : List Element) → ids_of
      (map (period_of told tree) (map timed_of (bounds_from total default periods))) ≡ map id_in periods
  ids_said total default [] = refl
  ids_said total default (e ∷ periods) = ap (λ ids. id_in e ∷ ids) (ids_said total (end_said (start_of default e) e) periods)

  ids_there : (total default : Option ℕ) (periods : List Element) → All (λ e. is_some (id_of e) ≡ true) periods
      → All (λ (period : PeriodRow X). is_some period.id ≡ true)
      (map (period_of told tree) (map timed_of (bounds_from total default periods)))
  ids_there total default [] all = All-nil (λ (period : PeriodRow X). is_some period.id ≡ true)
  ids_there total default (e ∷ periods) all =
      All-cons (λ (period : PeriodRow X). is_some period.id ≡ true) _ _
      (All-head (λ e. is_some (id_of e) ≡ true) e periods all)
      (ids_there total (end_said (start_of default e) e) periods (All-tail (λ e. is_some (id_of e) ≡ true) e periods all))

-- an MPD of which nothing is told
periods_new : (addressing : Addressing) (tree : Element) → refusals_of addressing tree ≡ [] → is_dynamic tree.head ≡ true
    → AreNew addressing tree.head [] (periods_of tree)
unfolding refusals_of value_refusals
periods_new addressing tree none dynamic =
    let values = (none_both (root_refusals tree ++ feature_refusals tree) (value_refusals addressing tree) none).1 in
    let inside = (none_both (values_at addressing (root_visit tree.head))
    (flat_map (values_at addressing) (visits_in addressing (root_parent tree.head) [] tree.children)) values).1 in
    all_new addressing tree.head [] tree.children (rw dynamic at inside)

pub ids_once : (addressing : Addressing) (tree : Element) → refusals_of addressing tree ≡ [] → HasIdsOnce tree
ids_once addressing tree none dynamic = (periods_new addressing tree none dynamic).once

-- rows keep the ids
pub rows_once : {X S : Type 0} (told : List Element → Option S) (shown : Tables → X → S) (tables : Tables) (tree : Element) (facts : Facts)
    (rows : List (PeriodRow X)) → HasIdsOnce tree → facts ≡ facts_of tree.head
    → periods_shown shown tables rows ≡ map (period_of told tree) (timed_periods tree)
    → HaveIdsOnce facts.live (map (period_with (keyed tables)) rows)
rows_once told shown tables tree facts rows once are_facts are live =
    let dynamic : is_dynamic tree.head ≡ true = ap (λ (f : Facts). f.live) (sym are_facts) ∙ live in
    let same : ids_of (map (period_with (keyed tables)) rows) ≡ ids_of (periods_shown shown tables rows) =
    map-map id_said (period_with (keyed tables)) rows ∙ sym (map-map id_said (period_shown shown tables) rows) in
    ap are_once (same ∙ ap (λ ps. ids_of ps) are ∙ ids_said told tree (total_of tree.head) (first_start tree.head) (periods_of tree))
    ∙ once dynamic

pub period_ids_differ : PeriodIdsDiffer
unfolding typed_mpd_of all_refusals dash_values
period_ids_differ tree mpd is live =
    let behind = refusals_behind true segments_refused segments_of tree in
    let told = none_told (refusals_of OneByOne tree ++ behind) (values_with segments_of tree) mpd (sym is) in
    let profile = (none_both (refusals_of OneByOne tree) behind told.0).0 in
    let dynamic : is_dynamic tree.head ≡ true = ap (λ (m : TypedMpd (Option Segments)). m.facts.live) (sym told.1) ∙ live in
    let new = periods_new OneByOne tree profile dynamic in
    let total = total_of tree.head in
    let first = first_start tree.head in
    subst (λ (m : TypedMpd (Option Segments)). HaveOwnIds m.periods) (sym told.1) (record {
      there = ids_there segments_of tree total first (periods_of tree)
          (All-weaker (IsNew OneByOne tree.head []) (λ e. is_some (id_of e) ≡ true) (λ e is. is.there) (periods_of tree) new.each);
      once = ap are_once (ids_said segments_of tree total first (periods_of tree)) ∙ new.once;
    })

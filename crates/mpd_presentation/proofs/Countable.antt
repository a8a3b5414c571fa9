-- The segments of an MPD in which no value is refused can be counted and numbered.
use Rattle.mpd_levels.specs.declared.level.Means.TheVariants as means
use Rattle.mpd_profile.specs.declared.listed.Addressing.TheVariants.{Segments as OneByOne}
use Rattle.std.proofs.Common.{◌≡◌, ℕ, ◌+◌, ◌^◌, ◌&&◌, ◌++◌, Bool, true, false, List, [], ◌∷◌, map, Option, Some, None, Ok, IfSome, All}
use Rattle.std.proofs.{Common.{refl, sym, ◌∙◌, ap, subst, inl, inr, arith}, lemmas.Bool.cases_Bool, lemmas.Bool.Decides.nat_tests}
use Rattle.std.proofs.{lemmas.List.Elements.{All-cons, All-head, All-nil, All-tail, All-weaker}, lemmas.List.Folds.list_all-append}
use Rattle.std.proofs.lemmas.List.{map-append}
use Rattle.std.specs.{Prelude.{codes, option_and_then, unwrap_or}, List.{cons_option, list_all}}
use Rattle.mpd_tree.specs.Trees.{Element, Head}
use Rattle.mpd_values.specs.Numbers.{is_between, kept_if, number_between, number_of}
use Rattle.mpd_profile.specs.Heads.{is_dynamic, or_else, value_named}
use Rattle.mpd_profile.specs.{Refusals.{feature_refusals, refusals_of, root_refusals, value_refusals}, declared.fault.RuleFault.RuleFault}
use Rattle.mpd_profile.proofs.Sound.{sound_root}
use Rattle.mpd_levels.specs.{declared.level.Means.Means, Fits.{FitsBetween, FitsLevel, FitsSegments}, Readings.{child_named, number_named}}
use Rattle.mpd_levels.specs.Levels.{elements_used, first_some, list_name, template_name, used}
use Rattle.mpd_levels.specs.Segments.{Segments, segments_by, segments_of, told, values_in}
use Rattle.mpd_rules.specs.{Fits.{FitsPeriod, FitsSet, FitsTrack}, Kept.{path_in, paths_in, representations_of, sets_of, periods_of}}
use Rattle.mpd_rules.specs.{Periods.{bounds_from, first_start, timed_of, total_of}, Typed.{TypedMpd, period_of, track_of}}
use Rattle.mpd_rules.specs.Rules.{all_refusals, dash_values, refusals_behind, segments_refused, typed_mpd_of, unless_refused}
use Rattle.mpd_rules.proofs.Fitting.{mpd_fits}
use Rattle.mpd_presentation.specs.{Meanings.{are_counted, is_counted, period_counted, row_counted}, Told.untold}
use Rattle.mpd_presentation.proofs.Ending.{none_behind}

-- ---- a value that an attribute says

abbrev IsWithin : (least bound : ℕ) → Option ℕ → Type 0
IsWithin least bound o = IfSome o (λ n. is_between least bound n ≡ true)

kept_within : (test : ℕ → Bool) (o : Option ℕ) → IfSome (kept_if test o) (λ n. test n ≡ true)
kept_within test None = tt
kept_within test (Some n) = elim (cases_Bool (test n)) [ inl passes ↦ rw passes passes | inr fails ↦ rw fails tt ]

value_within : (least bound : ℕ) (value : Option (List ℕ)) → IsWithin least bound (option_and_then (number_between least bound) value)
value_within least bound None = tt
value_within least bound (Some text) = kept_within (is_between least bound) (number_of text)

fitting : (least bound : ℕ) (name : List ℕ) (head : Head) → FitsBetween least bound name head
    → IsWithin least bound (number_named name head)
fitting least bound name head fits = subst (IsWithin least bound) fits (value_within least bound (value_named name head))

-- ---- the first of them

either : {X : Type 0} (P : X → Type 0) (a b : Option X) → IfSome a P → IfSome b P → IfSome (or_else a b) P
either P None b first later = later
either P (Some x) b first later = first

first_within : (least bound : ℕ) (value : Element → Option ℕ) → ((e : Element) → FitsSegments e → IsWithin least bound (value e))
    → (es : List Element) → All FitsSegments es → IsWithin least bound (first_some value es)
first_within least bound value each [] all = tt
first_within least bound value each (e ∷ es) all = either (λ n. is_between least bound n ≡ true) (value e) (first_some value es)
    (each e (All-head FitsSegments e es all)) (first_within least bound value each es (All-tail FitsSegments e es all))

module _ (name : List ℕ) where
  found_more : (es : List Element) (o : Option Element) → IfSome o FitsSegments → All FitsSegments es → All FitsSegments (cons_option o es)
  found_more es None fits all = all
  found_more es (Some e) fits all = All-cons FitsSegments e es fits all

  used_fit : (levels : List Element) → All (λ level. IfSome (child_named name level) FitsSegments) levels
      → All FitsSegments (elements_used name levels)
  used_fit [] all = All-nil FitsSegments
  used_fit (level ∷ levels) all = found_more (elements_used name levels) (child_named name level)
      (All-head (λ l. IfSome (child_named name l) FitsSegments) level levels all)
      (used_fit levels (All-tail (λ l. IfSome (child_named name l) FitsSegments) level levels all))

-- ---- the segments of a Representation

counted : (o p : Option ℕ) → IsWithin 1 (2 ^ 32) o → IsWithin 0 (2 ^ 63) p → (s : Segments) → s.timescale ≡ unwrap_or o 1
    → s.start_number ≡ unwrap_or p 1 → is_counted s ≡ true
counted None None some few s ticks first = rw (ticks, first) refl
counted None (Some n) some few s ticks first = grind (arith, nat_tests)
counted (Some t) None some few s ticks first = grind (arith, nat_tests)
counted (Some t) (Some n) some few s ticks first = grind (arith, nat_tests)

told_counted : (is_list : Bool) (es : List Element) → All FitsSegments es → is_counted (told is_list (values_in is_list es)) ≡ true
told_counted is_list es all =
    let values = values_in is_list es in
    counted values.attributes.timescale values.attributes.start_number
    (first_within 1 (2 ^ 32) (λ e. number_named (codes "timescale") e.head)
    (λ e fits. fitting 1 (2 ^ 32) (codes "timescale") e.head fits.numbers.timescale) es all)
    (first_within 0 (2 ^ 63) (λ e. number_named (codes "startNumber") e.head)
    (λ e fits. fitting 0 (2 ^ 63) (codes "startNumber") e.head fits.numbers.start_number) es all)
    (told is_list values) refl refl

CountedIn : Option Segments → Type 0
CountedIn o = is_counted (unwrap_or o untold) ≡ true

by_means : (o : Option Means) (levels : List Element) → All FitsLevel levels → CountedIn (segments_by o levels)
unfolding CountedIn
by_means (Some means.Template) levels all = told_counted false (elements_used template_name levels) (used_fit template_name levels
    (All-weaker FitsLevel (λ l. IfSome (child_named template_name l) FitsSegments) (λ l fits. fits.template) levels all))
by_means (Some means.List) levels all = told_counted true (elements_used list_name levels) (used_fit list_name levels
    (All-weaker FitsLevel (λ l. IfSome (child_named list_name l) FitsSegments) (λ l fits. fits.list) levels all))
by_means (Some means.Base) levels all = refl
by_means None levels all = refl

levels_counted : (e set period : Element) → FitsLevel e → FitsLevel set → FitsLevel period
    → is_counted (unwrap_or (segments_of (e ∷ set ∷ period ∷ [])) untold) ≡ true
unfolding segments_of CountedIn
levels_counted e set period own of_set of_period =
    by_means (used (e ∷ set ∷ period ∷ [])) (e ∷ set ∷ period ∷ []) (All-cons FitsLevel e (set ∷ period ∷ []) own
    (All-cons FitsLevel set (period ∷ []) of_set (All-cons FitsLevel period [] of_period (All-nil FitsLevel))))

-- ---- all of an MPD

both : (a b : Bool) → a ≡ true → b ≡ true → (a && b) ≡ true
both a b first second = cc

module _ (mpd period : Element) (of_period : FitsLevel period) where
  set_counted : (set : Element) (place : ℕ) (es : List Element) → FitsLevel set → All FitsTrack es
      → list_all row_counted (map (track_of segments_of) (map (path_in mpd period set place) es)) ≡ true
  set_counted set place [] of_set all = refl
  set_counted set place (e ∷ es) of_set all =
      both _ _ (levels_counted e set period (All-head FitsTrack e es all).level of_set of_period)
      (set_counted set place es of_set (All-tail FitsTrack e es all))

  sets_counted : (place : ℕ) (sets : List Element) → All FitsSet sets
      → list_all row_counted (map (track_of segments_of) (paths_in mpd period place sets)) ≡ true
  sets_counted place [] all = refl
  sets_counted place (set ∷ sets) all =
      let fits = All-head FitsSet set sets all in
      rw (map-append, list_all-append) (both _ _ (set_counted set place (representations_of set) fits.level fits.tracks)
      (sets_counted (place + 1) sets (All-tail FitsSet set sets all)))

periods_counted : (mpd : Element) (ps : List Element) (total default : Option ℕ) → All FitsPeriod ps
    → list_all period_counted (map (period_of segments_of mpd) (map timed_of (bounds_from total default ps))) ≡ true
periods_counted mpd [] total default all = refl
periods_counted mpd (p ∷ ps) total default all =
    let fits = All-head FitsPeriod p ps all in
    both _ _ (sets_counted mpd p fits.level 0 (sets_of p) fits.sets) (periods_counted mpd ps total _ (All-tail FitsPeriod p ps all))

first_none : {X : Type 0} (xs ys : List X) → xs ++ ys ≡ [] → xs ≡ []
first_none [] ys is = refl
first_none (x ∷ xs) ys is = absurd (cc)

no_values : (tree : Element) → refusals_of OneByOne tree ≡ [] → value_refusals OneByOne tree ≡ []
unfolding refusals_of
no_values tree none = none_behind (root_refusals tree ++ feature_refusals tree) (value_refusals OneByOne tree) none

refused_none : {X : Type 0} (faults : List RuleFault) (x y : X) → unless_refused faults x ≡ Ok y → faults ≡ []
refused_none [] x y is = refl
refused_none (fault ∷ faults) x y is = absurd (cc)

pub values_are : {X : Type 0} (faults : List RuleFault) (x y : X) → unless_refused faults x ≡ Ok y → x ≡ y
values_are [] x y is = cc
values_are (fault ∷ faults) x y is = absurd (cc)

pub typed_are_counted : (tree : Element) (mpd : TypedMpd (Option Segments)) → typed_mpd_of tree ≡ Ok mpd → are_counted mpd ≡ true
unfolding typed_mpd_of all_refusals dash_values
typed_are_counted tree mpd is =
    let behind = refusals_behind true segments_refused segments_of tree in
    let none = refused_none (all_refusals tree) (dash_values tree) mpd is in
    let sound = sound_root OneByOne tree (no_values tree (first_none (refusals_of OneByOne tree) behind none)) in
    let fits = mpd_fits OneByOne (is_dynamic tree.head) tree sound in
    ap are_counted (sym (values_are (all_refusals tree) (dash_values tree) mpd is))
    ∙ periods_counted tree (periods_of tree) (total_of tree.head) (first_start tree.head) fits.periods

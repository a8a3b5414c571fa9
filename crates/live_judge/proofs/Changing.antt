-- What an MPD changes, by the places of its Periods.
use Rattle.std.proofs.Common.{◌≡◌, ℕ, zero, suc, ◌+◌, ◌<◌, ◌||◌, ◌==◌, not, Bool, true, List, [], length, Option, Some, None, refl}
use Rattle.std.proofs.{Common.{sym, ◌∙◌, ap, ap₂, arith, ◌∷◌, map}, lemmas.Bool.{and_parts, eqb-true, not-false}}
use Rattle.std.proofs.lemmas.{Option.slice_get-map, Slice.Eq.bytes_eq-Decides}
use Rattle.std.specs.Option.{option_eq}
use Rattle.reload_law.specs.Rules.{same_part, same_range}
use Rattle.url_parts.specs.{declared.address.Part.Part, declared.range.Range.Range}
use Rattle.std.specs.{Prelude.{IfSome, flat_map, option_map, option_to_list, slice_get, is_some}, List.{list_any, range_with_len}}
use Rattle.mpd_rules.specs.{Laws.are_once, declared.rows.PeriodRow.PeriodRow, Typed.period_with}
use Rattle.presentation.specs.{Counting.sections_of, Presented.{Presented, content_at, start_of}}
use Rattle.presentation.proofs.{Counts.{from_on, from_on-start}, Reached.none_within}
use Rattle.live_meaning.specs.{Segments.id_at, Known.{Attributes, Known, attributes_of, ids_of, known_by}, Histories.Common, Refusals.Moved}
use Rattle.live_meaning.specs.Refusals.{Refusal, differs_at, ids_in, moved_by, moved_told, told_if}
use Rattle.live_meaning.proofs.{Histories.told_none, Accepted.{new_in, placed_at, id_there, known_grown}}
use Rattle.live_judge.specs.Changed.{AreUnmoved, has_other, moved_at, moved_from, place_among}
use Rattle.live_judge.proofs.Places.{known_before, new_stand}

-- what stays of a track in a section
abbrev pub one_of : Presented → (section track : ℕ) → List Attributes
one_of p s t = option_to_list (option_map attributes_of (content_at p s t))

-- ---- the same at each place

lists_same : (f g : ℕ → List Refusal) (a n : ℕ) → ((s : ℕ) → s < a + n → f s ≡ g s)
    → flat_map f (range_with_len a n) ≡ flat_map g (range_with_len a n)
lists_same f g a zero same = refl
lists_same f g a (suc n) same = rw (same a (omega arith), lists_same f g (a + 1) n (λ s less. same s (omega (arith, less)))) refl

unmoved_by : (p : Presented) (place s : ℕ) (o : Option Known) → moved_from p place s o ≡ [] → IfSome o (λ k. k.start ≡ start_of p s)
unmoved_by p place s None none = tt
unmoved_by p place s (Some k) none = eqb-true _ _ (not-false _ (told_none _ (Moved (place + s)) none))

module _ (c : Common) (p : Presented) (place : ℕ) (once : are_once (ids_of c.known) ≡ true)
    (among : place_among (ids_of c.known) (ids_in p) ≡ Some place) where
  known_is : (s : ℕ) → s < length p.sections → known_by c.known (id_at p s) ≡ slice_get c.known (place + s)
  known_is s less = known_before c.known (new_in (ids_of c.known) (ids_in p)) (ids_in p) place s (id_at p s)
      (rw known_grown at (new_stand c.known p place once among)) (id_there p.sections s less)

  moved_for : (s : ℕ) (o : Option Known) → slice_get c.known (place + s) ≡ o → moved_by c p s o ≡ moved_from p place s o
  moved_for s None at = refl
  moved_for s (Some k) at =
      ap (λ n. told_if (not (k.start == start_of p s)) (Moved n)) (placed_at (ids_of c.known) (place + s) k.id once
      (slice_get-map (λ (k : Known). k.id) c.known (place + s) ∙ ap (option_map (λ (k : Known). k.id)) at))

  moved_is : moved_told c p ≡ flat_map (moved_at c.known p place) (sections_of p)
  moved_is = lists_same (λ s. moved_by c p s (known_by c.known (id_at p s))) (moved_at c.known p place) 0 (length p.sections)
      (λ s less. ap (moved_by c p s) (known_is s (omega (arith, less))) ∙ moved_for s (slice_get c.known (place + s)) refl)

  pub none_moved : moved_told c p ≡ flat_map (moved_at c.known p place) (from_on 0 (length p.sections))
  none_moved = moved_is ∙ ap (flat_map (moved_at c.known p place)) (sym (from_on-start (length p.sections)))

  pub unmoved : moved_told c p ≡ [] → AreUnmoved c.known p place
  unmoved none s less =
      unmoved_by p place s (slice_get c.known (place + s))
      (none_within (moved_at c.known p place) (length p.sections) s (sym moved_is ∙ none) less)

  pub differs_is : (s : ℕ) → s < length p.sections → differs_at c p s ≡ has_other c.known p place s
  differs_is s less = rw (known_is s less) refl

-- ---- the same parts

same_ranges : (a b : Range) → same_range a b ≡ true → a ≡ b
same_ranges a b is =
    let both = and_parts _ _ is in
    ap₂ (λ (f c : ℕ). record { first = f; count = c }) (eqb-true _ _ both.0) (eqb-true _ _ both.1)

same_ranges_there : (a b : Option Range) → option_eq same_range a b ≡ true → a ≡ b
same_ranges_there None None is = refl
same_ranges_there None (Some b) is = absurd (cc)
same_ranges_there (Some a) None is = absurd (cc)
same_ranges_there (Some a) (Some b) is = ap Some (same_ranges a b is)

pub same_parts : (a b : Part) → same_part a b ≡ true → a ≡ b
same_parts a b is =
    let both = and_parts _ _ is in
    ap₂ (λ (text : List ℕ) (range : Option Range). record { address = text; range = range })
    ((bytes_eq-Decides a.address b.address).0 both.0) (same_ranges_there a.range b.range both.1)

-- ---- Periods without ids, however their segments are told

abbrev pub lacks : {X : Type 0} → List (PeriodRow X) → Bool
lacks periods = list_any (λ (period : PeriodRow _). not (is_some period.id)) periods

pub lacks_with : {X Y : Type 0} (f : X → Y) (periods : List (PeriodRow X)) → lacks (map (period_with f) periods) ≡ lacks periods
lacks_with {X} {Y} f [] = refl
lacks_with {X} {Y} f (period ∷ periods) = ap (λ b. not (is_some period.id) || b) (lacks_with f periods)

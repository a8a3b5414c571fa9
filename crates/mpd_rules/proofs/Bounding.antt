-- The bounds of one Period after the other.
use Rattle.std.proofs.Common.{◌≡◌, ℕ, List, [], ◌∷◌, ◌++◌, map, Option, Some, None, Ok, refl, sym, ◌∙◌, ap}
use Rattle.std.specs.Prelude.{unwrap_or}
use Rattle.bridge_io.specs.declared.place.Place.{Place}
use Rattle.mpd_tree.specs.Trees.{Element}
use Rattle.mpd_rules.specs.declared.periods.Bounds.{Bounds}
use Rattle.mpd_rules.specs.Periods.{bounds_from, bounds_of, end_said, order_told, said_of, said_told, start_of, start_told}
use Rattle.mpd_rules.specs.Rules.{unless_refused}
use Rattle.mpd_rules.proofs.Refusing.{none_told}

started : (place : Place) (former start end : Option ℕ) → start_told place former start end ≡ [] → start ≡ Some (unwrap_or start 0)
started place former None end none = absurd (cc)
started place former (Some s) end none = refl

module _ (total former default : Option ℕ) (p : Element) (ps : List Element) (one : Bounds)
    (is : Ok one ≡ unless_refused (said_told former (said_of total default p ps)) (bounds_of (said_of total default p ps))) where
  has_start : start_of default p ≡ Some one.start
  has_start =
      let none = none_told (said_told former (said_of total default p ps)) (bounds_of (said_of total default p ps)) one is in
      started p.head.place former (start_of default p) (said_of total default p ps).end none.0
      ∙ ap Some (sym (ap (λ (b : Bounds). b.start) none.1))

  pub order_goes_on : order_told former (bounds_from total default (p ∷ ps)) ≡ order_told (Some one.start)
      (bounds_from total (end_said (Some one.start) p) ps)
  order_goes_on =
      let none = none_told (said_told former (said_of total default p ps)) (bounds_of (said_of total default p ps)) one is in
      ap (λ fs. fs ++ order_told (start_of default p) (bounds_from total (end_said (start_of default p) p) ps)) none.0
      ∙ ap (λ s. order_told s (bounds_from total (end_said s p) ps)) has_start

  pub bounds_go_on : map bounds_of (bounds_from total default (p ∷ ps))
      ≡ one ∷ map bounds_of (bounds_from total (end_said (Some one.start) p) ps)
  bounds_go_on =
      let none = none_told (said_told former (said_of total default p ps)) (bounds_of (said_of total default p ps)) one is in
      ap (λ b. b ∷ map bounds_of (bounds_from total (end_said (start_of default p) p) ps)) (sym none.1)
      ∙ ap (λ s. one ∷ map bounds_of (bounds_from total (end_said s p) ps)) has_start

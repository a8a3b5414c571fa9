-- One walk that looks for features and values shows what a walk for each of them shows.
use Rattle.std.proofs.Common.{◌≡◌, true, List, [], ◌∷◌, ◌++◌, flat_map, Result, Ok, Err, refl, ◌∙◌}
use Rattle.std.specs.Result.{is_ok}
use Rattle.bridge_io.specs.Firsts.{first_fault}
use Rattle.mpd_tree.specs.Trees.{Element}
use Rattle.mpd_profile.specs.{declared.fault.RuleFault.RuleFault, declared.listed.Addressing.TheVariants.Segments}
use Rattle.mpd_profile.specs.{declared.visit.Pass.TheVariants.{Both, Features, Values}, Features.features_at, Passes.{refused_in, told_by}}
use Rattle.mpd_profile.specs.{Refusals.values_at, Visits.{Visit, visits_of}}
use Rattle.mpd_profile.proofs.Passing.{Tells, first_behind}

-- nothing is refused
abbrev None : List RuleFault → Type 0
None faults = first_fault faults ≡ Ok tt

parts : (xs ys : List RuleFault) → None (xs ++ ys) → None xs × None ys
parts [] ys none = (refl, none)
parts (x ∷ xs) ys none = absurd (cc)

along : (visits : List Visit) → None (flat_map (told_by Both) visits)
    → None (flat_map (told_by Features) visits) × None (flat_map (told_by (Values Segments)) visits)
unfolding told_by
along [] none = (refl, refl)
along (v ∷ visits) none =
    let here = parts (features_at v ++ values_at Segments v) (flat_map (told_by Both) visits) none in
    let both = parts (features_at v) (values_at Segments v) here.0 in let later = along visits here.1 in (
      first_behind (features_at v) (flat_map (told_by Features) visits) both.0 ∙ later.0,
      first_behind (values_at Segments v) (flat_map (told_by (Values Segments)) visits) both.1 ∙ later.1,
    )

pub untold : (result : Result (Unit {0}) RuleFault) (root : Element) → Tells result (refused_in Both root) → is_ok result ≡ true
    → None (refused_in Features root) × None (refused_in (Values Segments) root)
unfolding refused_in
untold (Ok u) root told is = along (visits_of Segments root) told
untold (Err fault) root told is = absurd (cc)

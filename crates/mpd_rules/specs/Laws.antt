-- Laws of the values of MPDs.
use Rattle.std.specs.Prelude.{◌≡◌, ℕ, ◌&&◌, not, Bool, true, List, [], ◌∷◌, map, bytes_eq, is_some, All, IfSome, Option, Ok, unwrap_or}
use Rattle.std.specs.List.{list_any}
use Rattle.iso_time.specs.Instant.{IsReadable}
use Rattle.mpd_tree.specs.Trees.{Element}
use Rattle.mpd_profile.specs.Heads.{is_dynamic}
use Rattle.mpd_levels.specs.Segments.{Segments}
use Rattle.mpd_rules.specs.{declared.rows.PeriodRow.PeriodRow, Kept.periods_of, Readings.id_of, Rules.typed_mpd_of, Typed.TypedMpd}

-- ---- the ids of Periods (ISO/IEC 23009-1, 5.3.2.2)

-- no id is repeated
abbrev pub are_once : List (List ℕ) → Bool
are_once [] = true
are_once (id ∷ ids) = not (list_any (bytes_eq id) ids) && are_once ids

abbrev pub ids_of : {X : Type 0} → List (PeriodRow X) → List (List ℕ)
ids_of periods = map (λ (period : PeriodRow _). unwrap_or period.id []) periods

-- each Period has an id, and no other one has it
pub record HaveOwnIds {X : Type 0} (periods : List (PeriodRow X)) : Type 0 where
  pub there : All (λ (period : PeriodRow X). is_some period.id ≡ true) periods
  pub once : are_once (ids_of periods) ≡ true

abbrev pub HaveIdsOnce : {X : Type 0} → (live : Bool) → List (PeriodRow X) → Type 0
HaveIdsOnce live periods = live ≡ true → are_once (ids_of periods) ≡ true

-- the same of the elements of an MPD
abbrev pub HasIdsOnce : Element → Type 0
HasIdsOnce mpd = is_dynamic mpd.head ≡ true → are_once (map (λ period. unwrap_or (id_of period) []) (periods_of mpd)) ≡ true

abbrev pub PeriodIdsDiffer : Type 0
PeriodIdsDiffer = (tree : Element) (mpd : TypedMpd (Option Segments)) → typed_mpd_of tree ≡ Ok mpd → mpd.facts.live ≡ true
    → HaveOwnIds mpd.periods

-- ---- the start of an MPD's availability (ISO/IEC 23009-1, 5.3.1.2)

abbrev pub StartsAreReadable : Type 0
StartsAreReadable = (tree : Element) (mpd : TypedMpd (Option Segments)) → typed_mpd_of tree ≡ Ok mpd
    → IfSome mpd.facts.availability_start IsReadable

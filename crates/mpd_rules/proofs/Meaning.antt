-- What is put together is what an MPD says.
use Rattle.std.proofs.Common.{◌≡◌, ℕ, ◌+◌, ◌&&◌, Bool, true, false, Ok, List, [], ◌∷◌, ◌++◌, map, length, Option, Some, refl, sym, ap}
use Rattle.std.proofs.{Common.{◌∙◌, append_assoc}, lemmas.List.map-append, lemmas.List.Concat.flat_map-append}
use Rattle.std.proofs.{lemmas.List.Folds.flat_map-map, lemmas.Simd.map-map}
use Rattle.std.specs.{Prelude.{codes, count_by, flat_map}, List.list_any}
use Rattle.bridge_io.specs.declared.place.Place.{Place}
use Rattle.mpd_tree.specs.{Trees.Element, Views.side_by_side}
use Rattle.mpd_profile.specs.{declared.listed.Listed.TheVariants.Period, Heads.is_named, declared.fault.RuleFault.RuleFault}
use Rattle.mpd_levels.specs.declared.tables.Tables.{Tables}
use Rattle.mpd_rules.specs.{declared.rows.TrackRow.TrackRow, declared.rows.PeriodRow.PeriodRow}
use Rattle.mpd_rules.specs.Built.{period_refused, periods_in, periods_refused, periods_shown, set_refused, set_tracks, sets_tracks}
use Rattle.mpd_rules.specs.{declared.facts.Facts.Facts, declared.periods.Bounds.Bounds, Held.{Held, Keyed, held_of, keyed}}
use Rattle.mpd_rules.specs.Kept.{is_left, left_children, left_out_in, path_in, paths_in, periods_of, representations_of, sets_of}
use Rattle.mpd_rules.specs.Periods.{bounds_from, bounds_of, end_said, first_start, period_bounds, start_of, timed_of, timed_periods}
use Rattle.mpd_rules.specs.Periods.{total_of}
use Rattle.mpd_rules.specs.Rules.{is_played, paths_told, refused_at, second_told, silence_in, silence_told, unless_refused}
use Rattle.mpd_rules.specs.{Typed.{bases_below, facts_of, period_of, period_with, track_of, track_with, values_with}, Views.mpd_shown}
use Rattle.mpd_rules.proofs.Refusing.{IsFirst, first_of_more}

-- ---- what is refused

module _ {S : Type 0} (refused : Place → Option S → List RuleFault) (told : List Element → Option S) (mpd : Element) where
  sets_refused : (period : Element) (k : ℕ) (sets : List Element) → flat_map (refused_at refused told) (paths_in mpd period k sets)
      ≡ flat_map (set_refused refused told (period ∷ [])) sets
  sets_refused period k [] = refl
  sets_refused period k (set ∷ sets) =
      flat_map-append (refused_at refused told) (map (path_in mpd period set k) (representations_of set)) (paths_in mpd period (k + 1) sets)
      ∙ ap (λ xs. xs ++ flat_map (refused_at refused told) (paths_in mpd period (k + 1) sets))
      (flat_map-map (refused_at refused told) (path_in mpd period set k) (representations_of set))
      ∙ ap (λ xs. set_refused refused told (period ∷ []) set ++ xs) (sets_refused period (k + 1) sets)

  pub periods_told : (many : Bool) (k : ℕ) (periods : List Element) → paths_told many (refused_at refused told) mpd k periods
      ≡ periods_refused many refused told k periods
  periods_told many k [] = refl
  periods_told many k (period ∷ periods) =
      ap (λ xs. second_told many k period ++ (xs ++ paths_told many (refused_at refused told) mpd (k + 1) periods))
      (sets_refused period 0 (sets_of period))
      ∙ ap (λ xs. second_told many k period ++ (period_refused refused told period ++ xs)) (periods_told many (k + 1) periods)
      ∙ sym (append_assoc (second_told many k period) (period_refused refused told period)
      (periods_refused many refused told (k + 1) periods))

-- ---- what is said

module _ {S : Type 0} (told : List Element → S) (mpd : Element) where
  sets_said : (period : Element) (k : ℕ) (sets : List Element) → map (track_of told) (paths_in mpd period k sets)
      ≡ sets_tracks told k (bases_below (bases_below [] mpd) period) (period ∷ []) sets
  sets_said period k [] = refl
  sets_said period k (set ∷ sets) =
      map-append (track_of told) (map (path_in mpd period set k) (representations_of set)) (paths_in mpd period (k + 1) sets)
      ∙ ap (λ xs. xs ++ map (track_of told) (paths_in mpd period (k + 1) sets))
      (map-map (track_of told) (path_in mpd period set k) (representations_of set))
      ∙ ap (λ xs. set_tracks told k (bases_below (bases_below [] mpd) period) (period ∷ []) set ++ xs) (sets_said period (k + 1) sets)

  pub periods_said : (total default : Option ℕ) (periods : List Element)
      → map (period_of told mpd) (map timed_of (bounds_from total default periods))
      ≡ periods_in told (bases_below [] mpd) periods (map bounds_of (bounds_from total default periods))
  periods_said total default [] = refl
  periods_said total default (period ∷ periods) =
      rw (sets_said period 0 (sets_of period), periods_said total (end_said (start_of default period) period) periods) refl

pub bounds_count : (total default : Option ℕ) (periods : List Element) → length (map bounds_of (bounds_from total default periods))
    ≡ length periods
bounds_count total default [] = refl
bounds_count total default (period ∷ periods) = rw (bounds_count total (end_said (start_of default period) period) periods) refl

-- ---- other words for segments

module _ {X Y : Type 0} (f : X → Y) where
  any_played : (tracks : List (TrackRow X)) → list_any (λ (track : TrackRow Y). is_played track.description.kind)
      (map (track_with f) tracks) ≡ list_any (λ (track : TrackRow X). is_played track.description.kind) tracks
  any_played [] = refl
  any_played (track ∷ tracks) = rw (any_played tracks) refl

  all_silent : (periods : List (PeriodRow X)) → flat_map silence_told (map (period_with f) periods) ≡ flat_map silence_told periods
  all_silent [] = refl
  all_silent (period ∷ periods) = rw (any_played period.tracks, all_silent periods) refl

  pub silence_same : (place : Place) (periods : List (PeriodRow X)) → silence_in place (map (period_with f) periods)
      ≡ silence_in place periods
  silence_same place [] = refl
  silence_same place (period ∷ periods) = all_silent (period ∷ periods)

module _ {X S : Type 0} (shown : Tables → X → S) (tables : Tables) where
  tracks_keyed : (tracks : List (TrackRow X)) → map (track_with (λ (k : Keyed X). Some (shown k.tables k.row)))
      (map (track_with (keyed tables)) tracks) ≡ map (track_with (λ x. Some (shown tables x))) tracks
  tracks_keyed [] = refl
  tracks_keyed (track ∷ tracks) = rw (tracks_keyed tracks) refl

  pub periods_keyed : (periods : List (PeriodRow X)) → map (period_with (λ (k : Keyed X). Some (shown k.tables k.row)))
      (map (period_with (keyed tables)) periods) ≡ periods_shown shown tables periods
  periods_keyed [] = refl
  periods_keyed (period ∷ periods) = rw (tracks_keyed period.tracks, periods_keyed periods) refl

-- no Period is left out
none_left : (p : Element → Bool) (es : List Element) → ((e : Element) → p e ≡ false) → count_by p es ≡ 0
none_left p [] never = refl
none_left p (e ∷ es) never = rw (never e) (none_left p es never)

named_not : (b : Bool) → (b && false) ≡ false
named_not true = refl
named_not false = refl

pub no_period_left : (mpd : Element) → left_children Period (codes "Period") mpd ≡ 0
no_period_left mpd = none_left (is_left Period (codes "Period") mpd.head) (side_by_side mpd.children)
    (λ e. named_not (is_named (codes "Period") e))

-- ---- a whole MPD

module _ {X S : Type 0} (told : List Element → Option S) (shown : Tables → X → S) (mpd : Element) where
  pub periods_are : (rows : List (PeriodRow (Option S))) (bases : List (List ℕ)) (periods : List Element) (bounds : List Bounds)
      → bases ≡ bases_below [] mpd → periods ≡ periods_of mpd → bounds ≡ map bounds_of (period_bounds mpd)
      → rows ≡ periods_in told bases periods bounds → rows ≡ map (period_of told mpd) (timed_periods mpd)
  periods_are rows bases periods bounds are_bases are_periods are_bounds is =
      rw (are_bases, are_periods, are_bounds) at is
      ∙ sym (periods_said told mpd (total_of mpd.head) (first_start mpd.head) (periods_of mpd))

  pub mpd_is : (held : Held X) (tables : Tables) (facts : Facts) (left_out : ℕ) (rows : List (PeriodRow X))
      → held ≡ held_of tables facts left_out rows → facts ≡ facts_of mpd.head → left_out ≡ left_out_in mpd
      → periods_shown shown tables rows ≡ map (period_of told mpd) (timed_periods mpd)
      → values_with told mpd ≡ mpd_shown shown held
  mpd_is held tables facts left_out rows is are_facts are_left are_rows = rw (
    is,
    are_facts,
    are_left,
    periods_keyed shown tables rows,
    are_rows,
  ) refl

-- ---- the passes

pub third_first : (e : RuleFault) (a b c d found : List RuleFault) → a ≡ [] → b ≡ [] → found ≡ c → IsFirst e found
    → IsFirst e (a ++ (b ++ (c ++ d)))
third_first e a b c d found none_a none_b is first = rw (none_a, none_b) (first_of_more e found d (c ++ d) (ap (λ xs. xs ++ d) is) first)

pub fourth_first : (e : RuleFault) (a b c d found : List RuleFault) → a ≡ [] → b ≡ [] → c ≡ [] → found ≡ d → IsFirst e found
    → IsFirst e (a ++ (b ++ (c ++ d)))
fourth_first e a b c d found none_a none_b none_c is first = rw (none_a, none_b, none_c, ← is) first

pub all_passed : {Y : Type 0} (a b c d : List RuleFault) (y : Y) → a ≡ [] → b ≡ [] → c ≡ [] → d ≡ []
    → unless_refused (a ++ (b ++ (c ++ d))) y ≡ Ok y
all_passed a b c d y none_a none_b none_c none_d = rw (none_a, none_b, none_c, none_d) refl

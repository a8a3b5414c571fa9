-- The Periods of a written MPD are read as they were written.
use Rattle.mpd_profile.specs.declared.listed.Listed.TheVariants as listed
use Rattle.std.proofs.Common.{◌≡◌, ℕ, ◌+◌, ◌^◌, ◌<◌, List, [], ◌∷◌, ◌++◌, length, map, filter, codes, Option, Some, None, unwrap_or, refl}
use Rattle.std.proofs.Common.{◌∙◌, ap, ap₂}
use Rattle.std.specs.{Prelude.{ℤ, Bool, option_and_then}, List.list_all}
use Rattle.bridge_io.specs.declared.place.Place.{Place}
use Rattle.iso_time.specs.{Duration.duration_text, Laws.DurationsAreReadAgain}
use Rattle.mpd_tree.specs.{Trees.Element, Views.side_by_side, Placed.{past, placed, root_place}, Markup.opening}
use Rattle.mpd_profile.specs.Heads.{or_else, value_named}
use Rattle.mpd_levels.specs.Segments.{Segments, segments_of}
use Rattle.mpd_rules.specs.{Kept.{is_kept, paths_of}, Periods.{bounds_from, first_start, said_of, start_said, timed_of, total_of}}
use Rattle.mpd_rules.specs.{Readings.{base_reference, duration_in}, Rules.dash_values, Typed.{facts_of, period_of, track_of}}
use Rattle.presentation.specs.declared.track.Track.{Track}
use Rattle.segment_forms.specs.declared.form.Form.{Form}
use Rattle.dash_writer.specs.{Elements.{Attribute, Element as Written, in_order, tag_of}, Runs.longest_runs}
use Rattle.dash_writer.specs.Outline.{Outline, heads_from, period_element, period_elements, root_element, sets_of, stand_together}
use Rattle.laws_of_mpds.specs.Shown.{ShownPeriod, ShownTrack, shown_of, shown_period, shown_periods, shown_row, shown_tracks}
use Rattle.laws_of_mpds.specs.Told.{AreNamed, is_named as is_named_so, read_at}
use Rattle.laws_of_mpds.proofs.{Reading.duration_read, Representations.{Around, HasAll}, Sets.{sets_named, tracks_shown}}
use Rattle.laws_of_mpds.proofs.Views.{behind, no_base, value_in, value_read}

-- ---- one Period

-- the tracks of a Period
pub period_tracks : (form : Form) (lists : ℕ → List Written) (told : ℕ → Option Segments) (tracks : List Track)
    (attributes : List Attribute)
    (mpd : Element) (here : Place)
    → base_reference mpd ≡ None → HasAll form lists told 0 (length tracks)
    → map shown_row (map (track_of segments_of) (paths_of mpd (read_at here (
      tag_of (codes "Period") attributes,
      in_order
          (sets_of lists tracks),
    ))))
    ≡ shown_tracks told 0 tracks
period_tracks form lists told tracks attributes mpd here bare has =
    let around : Around = record {
      lists = lists;
      told = told;
      mpd = mpd;
      tag = tag_of (codes "Period") attributes;
      sets = sets_of lists tracks;
      at = here;
      bare = bare;
      named = sets_named lists 0 (longest_runs stand_together tracks);
    } in
    tracks_shown form around tracks has refl

-- its attributes say its id and its start
pub record TellsPeriod (attributes : List Attribute) (name : List ℕ) (at : ℕ) : Type 0 where
  pub id : value_in (codes "id") attributes ≡ Some name
  pub start : value_in (codes "start") attributes ≡ Some (duration_text at)
  pub low : at < 10 ^ 19

period_shown : DurationsAreReadAgain → (form : Form) (lists : ℕ → List Written) (told : ℕ
    → Option Segments) (tracks : List Track) (attributes : List Attribute)
    (name : List ℕ) (at : ℕ) (mpd : Element) (here : Place) (total default : Option ℕ) (later : List Element)
    → base_reference mpd ≡ None → HasAll form lists told 0 (length tracks) → TellsPeriod attributes name at
    → shown_period (period_of segments_of mpd (timed_of (said_of total default
    (read_at here (tag_of (codes "Period") attributes, in_order (sets_of lists tracks))) later)))
    ≡ record { id = Some name; start = at; tracks = shown_tracks told 0 tracks }
period_shown again form lists told tracks attributes name at mpd here total default later bare has tells =
    let e = read_at here (tag_of (codes "Period") attributes, in_order (sets_of lists tracks)) in
    let rows = map shown_row (map (track_of segments_of) (paths_of mpd e)) in
    let inside = past here (codes "<" ++ codes "Period") in
    let id : value_named (codes "id") e.head ≡ Some name = value_read (codes "id") attributes inside ∙ tells.id in
    let start : start_said e ≡ Some at =
    ap (option_and_then duration_in) (value_read (codes "start") attributes inside ∙ tells.start) ∙ duration_read again at tells.low in
    ap₂ (λ (i : Option (List ℕ)) (s : Option ℕ). record { id = i; start = unwrap_or (or_else s default) 0; tracks = rows }) id start
    ∙ ap (λ (ts : List ShownTrack). record { id = Some name; start = at; tracks = ts })
    (period_tracks form lists told tracks attributes mpd here bare has)

-- ---- Periods in order

-- each is told, from a place on
abbrev pub AreTold : {P : Type 0} → Form → (head : ℕ → P → List Attribute) → (id : ℕ → P → List ℕ) → (start : P → ℕ)
    → (told : (section track : ℕ) → Option Segments) → Outline → (place : ℕ) → List P → Type 0
AreTold form head id start told o place [] = Unit {0}
AreTold form head id start told o place (p ∷ periods) = TellsPeriod (head place p) (id place p) (start p)
    × HasAll form (o.lists place) (told place) 0 (length o.tracks) × AreTold form head id start told o (place + 1) periods

pub heads_named : {P : Type 0} (head : ℕ → P → List Attribute) (o : Outline) (place : ℕ) (periods : List P)
    → AreNamed (codes "Period") (period_elements o place (heads_from head place periods))
heads_named head o place [] = refl
heads_named head o place (p ∷ periods) = heads_named head o (place + 1) periods

-- what the root says
pub record TellsRoot (o : Outline) (dynamic : Bool) (availability publish : Option ℤ) : Type 0 where
  pub live : (facts_of (read_at root_place (root_element o)).head).live ≡ dynamic
  pub begins : (facts_of (read_at root_place (root_element o)).head).availability_start ≡ availability
  pub made : (facts_of (read_at root_place (root_element o)).head).publish_time ≡ publish

module _ (again : DurationsAreReadAgain) (form : Form) {P : Type 0} (head : ℕ → P → List Attribute) (id : ℕ → P → List ℕ) (start : P → ℕ)
    (told : (section track : ℕ) → Option Segments) (o : Outline) where
  periods_read : (mpd : Element) (place : ℕ) (periods : List P) (here : Place) (total default : Option ℕ) → base_reference mpd ≡ None
      → AreTold form head id start told o place periods
      → map shown_period (map (period_of segments_of mpd) (map timed_of (bounds_from total default
      (filter (is_kept listed.Period (codes "Period") mpd.head)
      (side_by_side (placed here (in_order (period_elements o place (heads_from head place periods)))))))))
      ≡ shown_periods id start told o.tracks place periods
  periods_read mpd place [] here total default bare are = refl
  periods_read mpd place (p ∷ periods) here total default bare are =
      let later = filter (is_kept listed.Period (codes "Period") mpd.head) (side_by_side (placed (behind here (period_element o place
      (head place p)))
      (in_order (period_elements o (place + 1) (heads_from head (place + 1) periods))))) in
      ap₂ (λ one more. one ∷ more)
      (period_shown again form (o.lists place) (told place) o.tracks (head place p) (id place p) (start p) mpd (past here
      (codes "\n")) total default later
      bare are.1 are.0)
      (periods_read mpd (place + 1) periods (behind here (period_element o place (head place p))) total _ bare are.2)

  -- ---- the whole

  pub outline_shown : (periods : List P) (dynamic : Bool) (availability publish : Option ℤ) → o.periods ≡ heads_from head 0 periods
      → TellsRoot o dynamic availability publish → AreTold form head id start told o 0 periods
      → shown_of (dash_values (read_at root_place (root_element o)))
      ≡ record {
        dynamic = dynamic;
        availability_start = availability;
        publish_time = publish;
        periods = shown_periods id start told o.tracks 0 periods;
      }
  unfolding dash_values
  outline_shown periods dynamic availability publish are root told_all =
      let mpd = read_at root_place (root_element o) in
      let inside = past root_place (opening (tag_of (codes "MPD") o.root) ++ codes ">") in
      let bare : base_reference mpd ≡ None = no_base (codes "Period") refl root_place (tag_of (codes "MPD") o.root)
      (period_elements o 0 o.periods)
      (ap (λ heads. list_all (is_named_so (codes "Period")) (period_elements o 0 heads)) are ∙ heads_named head o 0 periods) in
      ap₂ (λ (l : Bool) (s : Option ℤ). record {
        dynamic = l;
        availability_start = s;
        publish_time = (facts_of mpd.head).publish_time;
        periods = (shown_of (dash_values mpd)).periods;
      }) root.live root.begins
      ∙ ap₂ (λ (t : Option ℤ) (ps : List ShownPeriod).
      record { dynamic = dynamic; availability_start = availability; publish_time = t; periods = ps })
      root.made
      (ap (λ heads. map shown_period (map (period_of segments_of mpd) (map timed_of (bounds_from (total_of mpd.head) (first_start mpd.head)
      (filter (is_kept listed.Period (codes "Period") mpd.head) (side_by_side (placed inside (in_order
      (period_elements o 0 heads))))))))) are
      ∙ periods_read mpd 0 periods inside (total_of mpd.head) (first_start mpd.head) bare told_all)

-- The Periods of a written MPD mean the sections that were written.
use Rattle.mpd_profile.specs.declared.listed.Listed.TheVariants as listed
use Rattle.std.proofs.Common.{◌≡◌, ℕ, ◌+◌, ◌<◌, ◌≤◌, ℤ, true, false, List, [], ◌∷◌, ◌++◌, length, map, filter, codes, Option, Some, None}
use Rattle.std.proofs.{Common.{option_and_then, refl, sym, ◌∙◌, ap, ap₂, arith}, lemmas.List.length-map}
use Rattle.std.specs.{List.range_with_len, Option.option_map_or}
use Rattle.bridge_io.specs.declared.place.Place.{Place}
use Rattle.timeline.specs.declared.window.Window.{Window}
use Rattle.meaning.specs.Meanings.{Entry}
use Rattle.mpd_tree.specs.{Trees.Element, Views.side_by_side, Placed.{past, placed, root_place}, Markup.opening}
use Rattle.mpd_profile.specs.Heads.{is_word}
use Rattle.mpd_levels.specs.Segments.{Segments, segments_of}
use Rattle.mpd_rules.specs.{declared.facts.Facts.Facts, Kept.is_kept, Periods.{bounds_from, timed_of, total_of, first_start}}
use Rattle.mpd_rules.specs.{Readings.base_reference, Rules.dash_values, Typed.{facts_of, period_of}}
use Rattle.presentation.specs.{declared.track.Track.Track, declared.track.Section.Section, Meanings.{entry_of, head_of, meaning_of}}
use Rattle.presentation.specs.{Meanings.{meaning_with, row_at}, Presented.{Presented, content_at, start_of, whole_window, window_at}}
use Rattle.presentation.specs.Presented.{window_of}
use Rattle.mpd_presentation.specs.{Meanings.meaning_if_counted, Told.following_of}
use Rattle.segment_forms.specs.declared.form.Form.{Form}
use Rattle.dash_writer.specs.{Elements.{Element as Written, in_order, tag_of}, Manifest.{all_period_attributes, period_attributes}}
use Rattle.dash_writer.specs.{Manifest.root_attributes, Outline.{Outline, period_element, period_elements, root_element}}
use Rattle.laws_of_mpds.specs.{Told.read_at, Meant.are_in_order}
use Rattle.laws_of_mpds.proofs.Meanings.{AreTold, Gives, Seen, entries, first_heads, heads, in_order as seen_in_order, mpd_meant, rows_in}
use Rattle.laws_of_mpds.proofs.{Meanings.{seen_at, seen_tracks}, Orders.in_order_already, Representations.{Has, HasAll}, Shown.heads_named}
use Rattle.laws_of_mpds.proofs.{Shown.period_tracks, Views.{behind, no_base, value_read}}

-- ---- what is seen of tracks in order

module _ (entry : ℕ → Option Entry) where
  entries_from : (k : ℕ) (tracks : List Track) → entries (seen_tracks entry k tracks) ≡ map entry (range_with_len k (length tracks))
  entries_from k [] = refl
  entries_from k (t ∷ tracks) = ap (λ es. entry k ∷ es) (entries_from (k + 1) tracks)

  heads_from : (k : ℕ) (tracks : List Track) → heads (seen_tracks entry k tracks) ≡ map head_of tracks
  heads_from k [] = refl
  heads_from k (t ∷ tracks) = ap (λ hs. head_of t ∷ hs) (heads_from (k + 1) tracks)

  kinds_from : (k : ℕ) (tracks : List Track) → map (λ (x : Seen). x.kind) (seen_tracks entry k tracks) ≡ map (λ (t : Track). t.kind) tracks
  kinds_from k [] = refl
  kinds_from k (t ∷ tracks) = ap (λ ks. t.kind ∷ ks) (kinds_from (k + 1) tracks)

  stay_in_order : (tracks : List Track) → are_in_order (map (λ (t : Track). t.kind) tracks) ≡ true
      → seen_in_order (seen_tracks entry 0 tracks) ≡ seen_tracks entry 0 tracks
  stay_in_order tracks ordered = in_order_already (λ (x : Seen). x.kind) (seen_tracks entry 0 tracks) (ap are_in_order (kinds_from 0 tracks)
      ∙ ordered)

-- ---- a finished presentation

-- a presentation's outline, with what each track has in each section
abbrev pub outline_with : Presented → (lists : (section track : ℕ) → List Written) → Outline
outline_with p lists = record {
  root = root_attributes p.sections;
  periods =
      all_period_attributes 0 p.sections;
  tracks = p.tracks;
  lists = lists;
}

-- what a track has in a section, through a window
abbrev pub entry_through : Presented → (section track : ℕ) → Window → Option Entry
entry_through p s k window = option_and_then (entry_of window) (content_at p s k)

-- tracks in order, in some sections, whose segments are told so and mean what they have in each section
pub record AreMeant (form : Form) (p : Presented) (lists : (section track : ℕ) → List Written) (told : (section track : ℕ)
    → Option Segments) : Type 0 where
  pub finished : p.following ≡ None
  pub some : 0 < length p.sections
  pub ordered : are_in_order (map (λ (track : Track). track.kind) p.tracks) ≡ true
  pub has : (s k : ℕ) → s < length p.sections → k < length p.tracks → Has form (lists s) (told s) k
  pub gives : (s k : ℕ) → s < length p.sections → k < length p.tracks → Gives told (entry_through p) s k

pub window_is : (p : Presented) (s : ℕ) → p.following ≡ None → window_of p s ≡ whole_window
window_is p s finished = ap (λ following. option_map_or (λ f. window_at f (start_of p s)) following whole_window) finished

module _ (form : Form) (p : Presented) (lists : (section track : ℕ) → List Written) (told : (section track : ℕ)
    → Option Segments) (w : AreMeant form p lists told) where
  abbrev whole : Section → Window
  whole section = whole_window

  -- ---- what it means

  row_is : (s : ℕ) → entries (seen_at (entry_through p) p.tracks s whole_window) ≡ row_at p s
  row_is s =
      let entry : ℕ → Option Entry = λ k. entry_through p s k whole_window in
      ap entries (stay_in_order entry p.tracks w.ordered) ∙ entries_from entry 0 p.tracks
      ∙ ap (λ window. map (λ k. entry_through p s k window) (range_with_len 0 (length p.tracks))) (sym (window_is p s w.finished))

  rows_are : (s : ℕ) (sections : List Section)
      → rows_in (entry_through p) p.tracks s (map whole sections) ≡ map (row_at p) (range_with_len s (length sections))
  rows_are s [] = refl
  rows_are s (section ∷ sections) = ap₂ (λ row rows. row ∷ rows) (row_is s) (rows_are (s + 1) sections)

  heads_are : (sections : List Section) → 0 < length sections
      → first_heads (entry_through p) p.tracks (map whole sections) ≡ map head_of p.tracks
  heads_are [] some = absurd (omega (arith, some))
  heads_are (section ∷ sections) some =
      let entry : ℕ → Option Entry = λ k. entry_through p 0 k whole_window in
      ap heads (stay_in_order entry p.tracks w.ordered) ∙ heads_from entry 0 p.tracks

  -- ---- its Periods

  -- no window is looked through where the MPD isn't dynamic
  window_whole : (facts : Facts) (now : Option ℤ) (start : ℕ) → facts.live ≡ false
      → option_map_or (λ f. window_at f start) (following_of facts now) whole_window ≡ whole_window
  window_whole facts now start still = rw still refl

  abbrev periods_at : ℕ → List Section → List Written
  periods_at s sections = period_elements (outline_with p lists) s (all_period_attributes s sections)

  periods_told : (facts : Facts) (now : Option ℤ) (s : ℕ) (sections : List Section) (mpd : Element) (here : Place)
      (total default : Option ℕ)
      → facts.live ≡ false → s + length sections ≤ length p.sections → base_reference mpd ≡ None
      → AreTold told p.tracks facts now s (map whole sections) (map (period_of segments_of mpd) (map timed_of (bounds_from total default
      (filter (is_kept listed.Period (codes "Period") mpd.head) (side_by_side (placed here (in_order (periods_at s sections))))))))
  periods_told facts now s [] mpd here total default still within bare = tt
  periods_told facts now s (section ∷ sections) mpd here total default still within bare =
      let from = past here (codes "\n") in
      let attributes = period_attributes s section in
      let has : HasAll form (lists s) (told s) 0 (length p.tracks) =
      λ i from below. w.has s i (omega (arith, within)) (omega (arith, below)) in (
        period_tracks form (lists s) (told s) p.tracks attributes mpd from bare has,
        window_whole facts now _ still,
        periods_told facts now (s + 1) sections mpd (behind here (period_element (outline_with p lists) s attributes)) total _ still
            (omega (arith, within)) bare,
      )

  -- ---- the whole

  pub outline_means : (url : List ℕ) (now : Option ℤ)
      → meaning_if_counted (dash_values (read_at root_place (root_element (outline_with p lists)))) url now ≡ Some (meaning_of p)
  unfolding dash_values meaning_of
  outline_means url now =
      let root = read_at root_place (root_element (outline_with p lists)) in
      let tag = tag_of (codes "MPD") (root_attributes p.sections) in
      let inside = past root_place (opening tag ++ codes ">") in
      let bare : base_reference root ≡ None = no_base (codes "Period") refl root_place tag (periods_at 0 p.sections)
      (heads_named period_attributes (outline_with p lists) 0 p.sections) in
      let static : (facts_of root.head).live ≡ false =
      ap (is_word (codes "dynamic")) (value_read (codes "type") (root_attributes p.sections) (past root_place (codes "<"
      ++ codes "MPD"))) in
      mpd_meant told (entry_through p) p.tracks (length p.sections) w.gives (dash_values root) url now (map whole p.sections)
      (omega (arith, length-map p.sections whole))
      (periods_told (facts_of root.head) now 0 p.sections root inside (total_of root.head) (first_start root.head) static
      (omega arith) bare)
      ∙ ap Some (ap₂ meaning_with (heads_are p.sections w.some) (rows_are 0 p.sections))

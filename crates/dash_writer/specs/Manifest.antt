-- The MPD of a presentation that came from playlists (ISO/IEC 23009-1, 5.3).
use Rattle.std.specs.Prelude.{ℕ, ◌+◌, ◌-◌, ◌^◌, ◌<◌, min, List, [], ◌∷◌, length, slice_get, codes, decimal, Option, Some, option_map}
use Rattle.std.specs.Prelude.{option_and_then, option_to_list}
use Rattle.iso_time.specs.Duration.{duration_text}
use Rattle.presentation.specs.{Origins.CameFromPlaylists, declared.track.Section.Section, declared.track.Track.Track, Presented.Presented}
use Rattle.presentation.specs.Presented.{content_at, listed_in, window_of}
use Rattle.dash_writer.specs.{Elements.{Attribute, Element}, Outline.{Outline, heads_from, outline_text, period_element, period_elements}}
use Rattle.dash_writer.specs.Outline.{root_element, set_element, set_elements, sets_of, track_element, track_elements}
use Rattle.segment_forms.specs.declared.form.Form.{Form}
use Rattle.dash_writer.specs.Forms.{own_segments}

-- ---- tracks (5.3.3 and 5.3.5)

-- the content of a track in a section
abbrev pub segment_lists : Form → Presented → (section place : ℕ) → List Element
segment_lists form p section place = option_to_list (option_map
    (λ content. own_segments form content.runs content.initialization (listed_in (window_of p section) content.runs))
    (content_at p section place))

-- the segments of a track in a section can be listed
pub record CanBeListed (p : Presented) (section place : ℕ) : Type 0 where
  pub origin : CameFromPlaylists p
  pub in_sections : section < length p.sections
  pub in_tracks : place < length p.tracks

-- Representation: the track at an index
abbrev pub representation : Form → Presented → (section place : ℕ) → Track → Element
representation form p section place track = track_element (segment_lists form p section) place track

-- the tracks from an index on
abbrev pub representations : Form → Presented → (section place : ℕ) → List Track → List Element
representations form p section place tracks = track_elements (segment_lists form p section) place tracks

-- AdaptationSet: tracks that belong together, from an index on; there is none without a track
abbrev pub adaptation_set : Form → Presented → (section place : ℕ) → List Track → List Element
adaptation_set form p section place tracks = set_element (segment_lists form p section) place tracks

abbrev pub adaptation_sets : Form → Presented → (section place : ℕ) → List (List Track) → List Element
adaptation_sets form p section place sets = set_elements (segment_lists form p section) place sets

-- ---- sections (5.3.2), and the whole (5.3.1)

abbrev pub all_sets : Form → Presented → (section : ℕ) → List Element
all_sets form p section = sets_of (segment_lists form p section) p.tracks

abbrev pub period_attributes : (place : ℕ) → Section → List Attribute
period_attributes place section =
    (codes "id", Some (decimal place))
    ∷ (codes "start", Some (duration_text section.start))
    ∷ (codes "duration", option_map duration_text section.length)
    ∷ []

-- those of the sections from an index on
abbrev pub all_period_attributes : (place : ℕ) → List Section → List (List Attribute)
all_period_attributes place sections = heads_from period_attributes place sections

-- when a section ends, in nanoseconds; fewer than 10^19 can be written
abbrev pub end_of : Section → Option ℕ
end_of section = option_map (λ length. min (10 ^ 19 - 1) (section.start + length)) section.length

-- when the last one does
abbrev pub last_end : List Section → Option ℕ
last_end sections = option_and_then end_of (slice_get sections (length sections - 1))

-- the attributes of a static MPD that ends at a time
abbrev pub finished_root : (end : Option ℕ) → List Attribute
finished_root end =
    (codes "xmlns", Some (codes "urn:mpeg:dash:schema:mpd:2011"))
    ∷ (codes "profiles", Some (codes "urn:mpeg:dash:profile:full:2011"))
    ∷ (codes "type", Some (codes "static"))
    ∷ (codes "minBufferTime", Some (codes "PT2S"))
    ∷ (codes "mediaPresentationDuration", option_map duration_text end)
    ∷ []

abbrev pub root_attributes : List Section → List Attribute
root_attributes sections = finished_root (last_end sections)

-- the outline of a presentation's MPD
abbrev pub outline_of : Form → Presented → Outline
outline_of form p = record {
  root = root_attributes p.sections;
  periods = all_period_attributes 0 p.sections;
  tracks = p.tracks;
  lists = segment_lists form p;
}

-- Period: the section at an index
abbrev pub period : Form → Presented → (place : ℕ) → Section → Element
period form p place section = period_element (outline_of form p) place (period_attributes place section)

-- the sections from an index on
abbrev pub periods : Form → Presented → (place : ℕ) → List Section → List Element
periods form p place sections = period_elements (outline_of form p) place (all_period_attributes place sections)

-- MPD
abbrev pub root_of : Form → Presented → Element
root_of form p = root_element (outline_of form p)

-- the text of a presentation's MPD
unfoldable pub manifest_text : Form → Presented → List ℕ
manifest_text form p = outline_text (outline_of form p)

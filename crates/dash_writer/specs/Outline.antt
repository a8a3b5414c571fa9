-- The outline of an MPD (ISO/IEC 23009-1, 5.3): its root, its Periods and its tracks, and the content of each track in each
-- Period.
use Rattle.std.specs.Prelude.{◌≡◌, ℕ, ◌<◌, ◌≤◌, false, ◌+◌, ◌==◌, ◌&&◌, ◌||◌, Bool, List, [], ◌∷◌, ◌++◌, length, codes, decimal, Some}
use Rattle.std.specs.Prelude.{option_map, option_and_then}
use Rattle.bridge_io.specs.{declared.media.Kind.Kind, declared.media.Kind.TheVariants.{Video, Audio, Text}}
use Rattle.presentation.specs.{declared.track.Track.Track, Order.{is_of, same_language}}
use Rattle.mpd_tree.specs.Markup.{document}
use Rattle.dash_writer.specs.{Elements.{Attribute, Element, node}, Runs.longest_runs, Values.{id_text, known_rate}, Written.is_childless}

pub record Outline : Type 0 where
  -- attributes of the MPD
  pub root : List Attribute
  -- of each Period
  pub periods : List (List Attribute)
  pub tracks : List Track
  -- the content of a track in a Period, by the two indices
  pub lists : (section track : ℕ) → List Element

-- ---- tracks (5.3.3 and 5.3.5), with their contents by index

-- attributes of the track at an index
abbrev pub representation_attributes : (place : ℕ) → Track → List Attribute
representation_attributes place track =
    (codes "id", Some (id_text place))
    ∷ (codes "bandwidth", Some (decimal track.bandwidth))
    ∷ (codes "codecs", track.codecs)
    ∷ (codes "width", option_map (λ size. decimal size.width) track.size)
    ∷ (codes "height", option_map (λ size. decimal size.height) track.size)
    ∷ (codes "frameRate", option_and_then known_rate track.frame_rate)
    ∷ []

abbrev pub track_element : (lists : ℕ → List Element) (place : ℕ) → Track → Element
track_element lists place track = node (codes "Representation") (representation_attributes place track) (lists place)

-- Representations: the tracks from an index on
abbrev pub track_elements : (lists : ℕ → List Element) (place : ℕ) → List Track → List Element
track_elements lists place [] = []
track_elements lists place (track ∷ tracks) = track_element lists place track ∷ track_elements lists (place + 1) tracks

abbrev pub mime_type : Kind → List ℕ
mime_type Video = codes "video/mp4"
mime_type Audio = codes "audio/mp4"
mime_type Text = codes "application/mp4"

abbrev pub is_video : Kind → Bool
is_video kind = is_of Video kind

-- Tracks of one AdaptationSet: they have the same kind and language, and are all video or of the same set of renditions.
abbrev pub stand_together : Track → Track → Bool
stand_together one other =
    is_of one.kind other.kind && (is_video one.kind || one.set == other.set) && same_language one.language other.language

abbrev pub set_attributes : Track → List Attribute
set_attributes track = (codes "mimeType", Some (mime_type track.kind)) ∷ (codes "lang", track.language) ∷ []

-- AdaptationSet: tracks that belong together, from an index on; there is none without a track
abbrev pub set_element : (lists : ℕ → List Element) (place : ℕ) → List Track → List Element
set_element lists place [] = []
set_element lists place (track ∷ tracks) =
    node (codes "AdaptationSet") (set_attributes track) (track_elements lists place (track ∷ tracks)) ∷ []

abbrev pub set_elements : (lists : ℕ → List Element) (place : ℕ) → List (List Track) → List Element
set_elements lists place [] = []
set_elements lists place (tracks ∷ sets) = set_element lists place tracks ++ set_elements lists (place + length tracks) sets

-- all tracks
abbrev pub sets_of : (lists : ℕ → List Element) → List Track → List Element
sets_of lists tracks = set_elements lists 0 (longest_runs stand_together tracks)

-- ---- Periods (5.3.2), and the whole (5.3.1)

-- the attributes of Periods from an index on, each by its index
abbrev pub heads_from : {P : Type 0} → (head : ℕ → P → List Attribute) → (place : ℕ) → List P → List (List Attribute)
heads_from head place [] = []
heads_from head place (period ∷ periods) = head place period ∷ heads_from head (place + 1) periods

-- Period: the one at an index
abbrev pub period_element : Outline → (place : ℕ) → List Attribute → Element
period_element o place attributes = node (codes "Period") attributes (sets_of (o.lists place) o.tracks)

-- the Periods from an index on
abbrev pub period_elements : Outline → (place : ℕ) → List (List Attribute) → List Element
period_elements o place [] = []
period_elements o place (attributes ∷ periods) = period_element o place attributes ∷ period_elements o (place + 1) periods

-- MPD
abbrev pub root_element : Outline → Element
root_element o = node (codes "MPD") o.root (period_elements o 0 o.periods)

-- the text of an outline
abbrev pub outline_text : Outline → List ℕ
outline_text o = document (root_element o).0 (root_element o).1

-- each of `count` tracks from an index on can be listed, and has content
abbrev pub AreListed : (can_list : ℕ → Type 0) → (lists : ℕ → List Element) → (place count : ℕ) → Type 0
AreListed can_list lists place count = (k : ℕ) → place ≤ k → k < place + count → can_list k × (is_childless (lists k) ≡ false)

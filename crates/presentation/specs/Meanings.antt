-- What a presentation means (ISO/IEC 23009-1, 5.3), without any limit, and without bounds on numbers and on the length of URLs.
use Rattle.timeline.specs.declared.names.Names.TheVariants as names
use Rattle.std.specs.Prelude.{ℕ, ◌+◌, ◌-◌, Bool, List, [], ◌∷◌, map, filter, length, slice_get, is_some, Option, Some, None}
use Rattle.std.specs.{Prelude.{option_and_then, Ok, Err, if◌then◌else◌}, List.list_any}
use Rattle.url.specs.{Parser.{Parsed, parse_url}, Parts.Parts}
use Rattle.bridge_io.specs.{declared.media.Kind.Kind, declared.media.Kind.TheVariants.{Video, Audio, Text}}
use Rattle.url_parts.specs.{Addresses.{is_absolute, text_of, url_of}, declared.address.Part.Part, declared.range.Range.Range}
use Rattle.template_ids.specs.Templates.{named}
use Rattle.timeline.specs.{declared.names.Names.Names, declared.window.Window.Window, Expansions.{SegmentTimeline, Timing}}
use Rattle.timeline.specs.Listed.{media_time}
use Rattle.mpd_entries.specs.declared.ref_part.RefPart.{RefPart}
use Rattle.meaning.specs.Meanings.{Segment, Entry, Meaning, Track as MeantTrack}
use Rattle.presentation.specs.{declared.parts.Content.Content, declared.track.Track.Track, Counting.{sections_of, tracks_of}}
use Rattle.presentation.specs.Presented.{Presented, content_at, listed_in, window_of}

-- ---- URLs of any length

-- the serialization of a parsed URL by the URL Standard, or the empty text
abbrev pub written : Parsed Parts → List ℕ
written (Ok url) = text_of url
written (Err fault) = []

-- the URL that a reference resolves to against a base, whatever its length, its scheme and its bytes (URL Standard, 4.4)
unfoldable pub address_of : (base reference : List ℕ) → List ℕ
address_of base reference = if is_absolute reference then written (parse_url None reference)
    else written (parse_url (url_of base) reference)

-- an absent reference is the base itself
abbrev pub address_by : (base : List ℕ) → Option (List ℕ) → List ℕ
address_by base None = base
address_by base (Some reference) = address_of base reference

-- the base that references give one after another
abbrev pub deepest : (base : List ℕ) → List (List ℕ) → List ℕ
deepest base [] = base
deepest base (reference ∷ references) = deepest (address_of base reference) references

-- ---- segments

abbrev pub part_with : Option Range → List ℕ → Part
part_with range address = record { address = address; range = range }

-- an index after the last name has no URL
abbrev pub listed_part : (base : List ℕ) → Option RefPart → Part
listed_part base None = part_with None base
listed_part base (Some part) = part_with part.range (address_by base part.reference)

abbrev pub own_part : Option Part → Part
own_part None = part_with None []
own_part (Some part) = part

-- the URL and byte range of the segment at an index, with a number and a media time
abbrev pub part_by : Names → (place number time : ℕ) → Part
part_by (names.Template media id bandwidth base) place number time =
    part_with None (address_of base (named media (record { id = id; bandwidth = bandwidth; number = number; time = time })))
part_by (names.List parts base) place number time = listed_part base (slice_get parts place)
part_by (names.Shared parts base) place number time = listed_part base (slice_get parts place)
part_by (names.Addresses parts) place number time = own_part (slice_get parts place)

-- the file or byte range of a segment
unfoldable pub part_meant : SegmentTimeline → Timing → Part
part_meant timeline x = part_by timeline.names (x.number - timeline.first_number) x.number (media_time timeline x)

abbrev pub segment_of : SegmentTimeline → Timing → Segment
segment_of timeline x = record { part = part_meant timeline x; start = x.start; end = x.end }

-- ---- tracks over sections

-- the content of a track in a section: `None` where no segment is listed
abbrev pub entry_with : Part → SegmentTimeline → List Timing → Option Entry
entry_with initialization timeline [] = None
entry_with initialization timeline (x ∷ xs) =
    Some (record { initialization = initialization; segments = segment_of timeline x ∷ map (segment_of timeline) xs })

abbrev pub entry_of : Window → Content → Option Entry
entry_of window content = entry_with content.initialization content.runs (listed_in window content.runs)

-- a track's kind, and its language, which a video track doesn't have
pub record Head : Type 0 where
  pub kind : Kind
  pub language : Option (List ℕ)

abbrev pub language_of : Kind → Option (List ℕ) → Option (List ℕ)
language_of Video language = None
language_of Audio language = language
language_of Text language = language

abbrev pub head_with : Kind → Option (List ℕ) → Head
head_with kind language = record { kind = kind; language = language_of kind language }

-- a section in which some track has content
abbrev pub is_kept : List (Option Entry) → Bool
is_kept entries = list_any is_some entries

-- the content of a track in a section, whose entries are by track
abbrev pub entry_in : (track : ℕ) → List (Option Entry) → Option Entry
entry_in track entries = option_and_then (λ entry. entry) (slice_get entries track)

-- tracks, given the index of the first one
abbrev pub tracks_from : (track : ℕ) → List (List (Option Entry)) → List Head → List MeantTrack
tracks_from track rows [] = []
tracks_from track rows (head ∷ heads) =
    record { kind = head.kind; language = head.language; entries = map (entry_in track) rows } ∷ tracks_from (track + 1) rows heads

-- tracks over all these sections
abbrev pub meaning_over : List Head → List (List (Option Entry)) → Meaning
meaning_over heads rows = record { sections = length rows; tracks = tracks_from 0 rows heads }

-- the sections are those in which some track has content
abbrev pub meaning_with : List Head → List (List (Option Entry)) → Meaning
meaning_with heads rows = meaning_over heads (filter is_kept rows)

-- ---- what a presentation means

abbrev pub head_of : Track → Head
head_of track = head_with track.kind track.language

abbrev pub entry_at : Presented → (section track : ℕ) → Option Entry
entry_at p s t = option_and_then (entry_of (window_of p s)) (content_at p s t)

abbrev pub row_at : Presented → (section : ℕ) → List (Option Entry)
row_at p s = map (entry_at p s) (tracks_of p)

-- the content of the tracks in each section
abbrev pub rows_of : Presented → List (List (Option Entry))
rows_of p = map (row_at p) (sections_of p)

unfoldable pub meaning_of : Presented → Meaning
meaning_of p = meaning_with (map head_of p.tracks) (rows_of p)

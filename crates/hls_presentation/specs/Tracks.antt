-- The tracks of a master playlist with their media playlists: which are kept, and the errors of one.
use Rattle.std.specs.Prelude.{ℕ, ◌==◌, ◌&&◌, not, Bool, true, false, List, [], ◌∷◌, ◌++◌, filter, flat_map, is_none, if◌then◌else◌}
use Rattle.std.specs.{Prelude.bytes_eq, List.{list_any, count_by}, Option.option_eq}
use Rattle.bridge_io.specs.{declared.media.Kind.Kind, declared.media.Kind.TheVariants.{Video, Audio, Text}}
use Rattle.url_parts.specs.{declared.address.Part.Part, declared.range.Range.Range}
use Rattle.hls_media.specs.{declared.media.Media.Media, declared.media.MediaSegment.MediaSegment}
use Rattle.hls_master.specs.declared.track.MasterTrack.{MasterTrack}
use Rattle.layer_faults.specs.declared.hls.HlsFault.{HlsFault}
use Rattle.layer_faults.specs.declared.hls.HlsFault.TheVariants.{NotEnded, NoMap, MapChanged}
use Rattle.layer_faults.specs.declared.hls.HlsFault.TheVariants.{ZeroDuration}

-- a track of a master playlist with its media playlist
pub record Source : Type 0 where
  pub track : MasterTrack
  pub media : Media

-- one media playlist for each track, in order
abbrev pub sources : List MasterTrack → List Media → List Source
sources [] medias = []
sources (track ∷ tracks) [] = []
sources (track ∷ tracks) (media ∷ medias) = record { track = track; media = media } ∷ sources tracks medias

-- ---- maps (RFC 8216 4.3.2.5)

abbrev pub lacks_map : MediaSegment → Bool
lacks_map s = is_none s.map

abbrev pub lacks_maps : Media → Bool
lacks_maps media = list_any lacks_map media.segments

abbrev pub same_range : Range → Range → Bool
same_range a b = a.first == b.first && a.count == b.count

-- a map is its URL and its byte range
abbrev pub same_part : Part → Part → Bool
same_part a b = bytes_eq a.address b.address && option_eq same_range a.range b.range

-- the next segment of one section begins with another map
abbrev pub changes_map : MediaSegment → MediaSegment → Bool
changes_map s next = s.section == next.section && not (option_eq same_part s.map next.map)

abbrev pub map_changes_behind : MediaSegment → List MediaSegment → Bool
map_changes_behind s [] = false
map_changes_behind s (next ∷ rest) = if changes_map s next then true else map_changes_behind next rest

abbrev pub map_changes : List MediaSegment → Bool
map_changes [] = false
map_changes (s ∷ rest) = map_changes_behind s rest

-- ---- the errors of one track

abbrev pub is_text : Kind → Bool
is_text Video = false
is_text Audio = false
is_text Text = true

-- A text track with a segment without map isn't made of CMAF files: it is dropped.
abbrev pub is_left_out : Source → Bool
is_left_out s = is_text s.track.kind && lacks_maps s.media

abbrev pub lasts_no_time : MediaSegment → Bool
lasts_no_time s = s.duration == 0

abbrev pub has_empty : List MediaSegment → Bool
has_empty segments = list_any lasts_no_time segments

abbrev pub fault_if : Bool → HlsFault → List HlsFault
fault_if true fault = fault ∷ []
fault_if false fault = []

-- all errors of a track's segments where the track isn't dropped, in order
abbrev pub segment_faults : Media → List HlsFault
segment_faults media = fault_if (lacks_maps media) NoMap
    ++ (fault_if (map_changes media.segments) MapChanged ++ fault_if (has_empty media.segments) ZeroDuration)

-- all errors of a track whose playlist may be live, in order
abbrev pub faults_so_far : Source → List HlsFault
faults_so_far s = if is_left_out s then [] else segment_faults s.media

-- all errors of a track, in order
abbrev pub faults_of : Source → List HlsFault
faults_of s = fault_if (not s.media.ended) NotEnded ++ faults_so_far s

abbrev pub track_faults : List Source → List HlsFault
track_faults tracks = flat_map faults_of tracks

-- the kept tracks, and how many are dropped
abbrev pub is_kept : Source → Bool
is_kept s = not (is_left_out s)

abbrev pub kept : List Source → List Source
kept tracks = filter is_kept tracks

abbrev pub left_out : List Source → ℕ
left_out tracks = count_by is_left_out tracks

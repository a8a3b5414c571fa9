-- What a master playlist and its media playlists mean (RFC 8216, 4.3.2 to 4.3.4), without any limit, and without bounds on
-- numbers and on the length of URLs.
use Rattle.std.specs.Prelude.{ℕ, ◌&&◌, not, Bool, true, false, List, [], ◌∷◌, length, map, filter, is_none, Option, Some, None, option_map}
use Rattle.std.specs.{Prelude.{option_and_then, Result, Ok, Err}, List.list_any}
use Rattle.bridge_io.specs.{Outside.Files, declared.media.Kind.Kind, declared.media.Kind.TheVariants.{Video, Audio, Text}}
use Rattle.url_parts.specs.Addresses.{local_name_of}
use Rattle.hls_lines.specs.{Lines.{PlaylistLine, lines_of}, declared.fault.LineFault.LineFault}
use Rattle.hls_media.specs.{Media.media_values, declared.media.Media.Media, declared.media.MediaSegment.MediaSegment}
use Rattle.hls_master.specs.{Masters.master_values, Tracks.TrackValue}
use Rattle.meaning.specs.Meanings.{Track, Meaning}
use Rattle.hls_meaning.specs.Sections.{is_in, numbers_with, entry_in}

-- ---- tracks with their playlists

-- a track of a master playlist with its media playlist
pub record Source : Type 0 where
  pub track : TrackValue
  pub media : Media

abbrev pub is_text : Kind → Bool
is_text Video = false
is_text Audio = false
is_text Text = true

abbrev pub lacks_map : MediaSegment → Bool
lacks_map s = is_none s.map

-- A text track with a segment without map isn't made of CMAF files: it is dropped.
abbrev pub is_kept : Source → Bool
is_kept source = not (is_text source.track.kind && list_any lacks_map source.media.segments)

-- ---- what tracks mean

-- the numbers of the sections of all tracks, rising
abbrev pub numbers_among : List ℕ → List Source → List ℕ
numbers_among numbers [] = numbers
numbers_among numbers (source ∷ later) = numbers_among (numbers_with numbers source.media.segments) later

-- whether some segment of some track has a number
abbrev pub is_told : List Source → (number : ℕ) → Bool
is_told sources number = list_any (λ (source : Source). list_any (is_in number) source.media.segments) sources

abbrev pub track_over : List ℕ → Source → Track
track_over numbers source = record {
  kind = source.track.kind;
  language = source.track.language;
  entries = map (entry_in source.media.segments) numbers;
}

abbrev pub meaning_over : List ℕ → List Source → Meaning
meaning_over numbers sources = record { sections = length numbers; tracks = map (track_over numbers) sources }

abbrev pub meaning_of_kept : List Source → Meaning
meaning_of_kept sources = meaning_over (numbers_among [] sources) sources

-- what tracks with their playlists mean
unfoldable pub meaning_of_sources : List Source → Meaning
meaning_of_sources sources = meaning_of_kept (filter is_kept sources)

-- ---- what files mean

-- the bytes of the file at a URL under a folder
abbrev pub file_at : Files → (folder address : List ℕ) → Option (List ℕ)
file_at files folder address = option_and_then files (local_name_of folder address)

-- what lines mean, if they are those of a playlist
abbrev pub media_by : (url : List ℕ) → Result (List PlaylistLine) LineFault → Option Media
media_by url (Ok lines) = Some (media_values url lines)
media_by url (Err fault) = None

abbrev pub media_at : Files → (folder address : List ℕ) → Option Media
media_at files folder address = option_and_then (λ bytes. media_by address (lines_of bytes)) (file_at files folder address)

abbrev pub source_of : Files → (folder : List ℕ) → TrackValue → Option Source
source_of files folder track = option_map (λ media. record { track = track; media = media }) (media_at files folder track.address)

-- the media playlists of all tracks, where all are there
abbrev pub sources_of : Files → (folder : List ℕ) → List TrackValue → Option (List Source)
sources_of files folder [] = Some []
sources_of files folder (track ∷ tracks) =
    option_and_then (λ source. option_map (λ sources. source ∷ sources) (sources_of files folder tracks)) (source_of files folder track)

abbrev pub meaning_by : Files → (folder : List ℕ) → Option (List TrackValue) → Option Meaning
meaning_by files folder tracks = option_map meaning_of_sources (option_and_then (sources_of files folder) tracks)

-- What the master playlist at a URL means, with the media playlists that it mentions, each of which is a file at its URL
-- under a folder. Where a file is missing or isn't a playlist, it has no meaning.
unfoldable pub hls_meaning : Files → (folder url : List ℕ) → Option Meaning
hls_meaning files folder url = option_and_then (λ bytes. meaning_by files folder (master_values bytes url)) (file_at files folder url)

-- What the lines of a media playlist mean, defined over whole lists (RFC 8216 4.3.2 and 4.3.3).
use Rattle.hls_media.specs.declared.tag.Tag.TheVariants as tags
use Rattle.std.specs.Prelude.{◌≡◌, ℕ, ◌+◌, ◌++◌, Bool, true, false, List, [], ◌∷◌, length, reverse, slice_get, count_by, if◌then◌else◌}
use Rattle.std.specs.Prelude.{Option, Some, None, option_map, unwrap_or, is_some}
use Rattle.bridge_io.specs.declared.place.Place.{Place}
use Rattle.hls_lines.specs.Lines.{PlaylistLine, is_uri, tag, uri}
use Rattle.hls_media.specs.{Addresses.address_of, Media.{former_end, map_value, media_values, no_range}, Tags.tag_of, Values.duration_of}
use Rattle.hls_media.specs.{Values.{number_of, range_from}, declared.media.MediaSegment.MediaSegment, declared.tag.Tag.Tag}

-- ---- kinds of tags

abbrev pub is_target : Tag → Bool
is_target tags.TargetDuration = true
is_target _ = false

abbrev pub is_sequence : Tag → Bool
is_sequence tags.MediaSequence = true
is_sequence _ = false

abbrev pub is_first_section : Tag → Bool
is_first_section tags.DiscontinuitySequence = true
is_first_section _ = false

abbrev pub is_discontinuity : Tag → Bool
is_discontinuity tags.Discontinuity = true
is_discontinuity _ = false

abbrev pub is_duration : Tag → Bool
is_duration tags.Duration = true
is_duration _ = false

abbrev pub is_byte_range : Tag → Bool
is_byte_range tags.ByteRange = true
is_byte_range _ = false

abbrev pub is_map : Tag → Bool
is_map tags.Map = true
is_map _ = false

abbrev pub is_end : Tag → Bool
is_end tags.EndList = true
is_end _ = false

-- a line is a tag of a kind
abbrev pub is_of : (Tag → Bool) → PlaylistLine → Bool
is_of kind (tag name rest place) = kind (tag_of name)
is_of kind (uri text place) = false

-- ---- values of tags

-- the value of the first tag of a kind, and its position
abbrev pub first_told : (Tag → Bool) → List PlaylistLine → Option (List ℕ × Place)
first_told kind [] = None
first_told kind (tag name rest place ∷ lines) = if kind (tag_of name) then Some (rest, place) else first_told kind lines
first_told kind (uri text place ∷ lines) = first_told kind lines

-- the same where no URI is before it
abbrev pub told_first : (Tag → Bool) → List PlaylistLine → Option (List ℕ × Place)
told_first kind [] = None
told_first kind (tag name rest place ∷ lines) = if kind (tag_of name) then Some (rest, place) else told_first kind lines
told_first kind (uri text place ∷ lines) = None

-- the value of the last tag of a kind
abbrev pub last_told : (Tag → Bool) → List PlaylistLine → Option (List ℕ × Place)
last_told kind lines = first_told kind (reverse lines)

-- and of the last one after the last URI
abbrev pub told_since : (Tag → Bool) → List PlaylistLine → Option (List ℕ × Place)
told_since kind lines = told_first kind (reverse lines)

-- the number of the last tag of a kind, or 0
abbrev pub number_told : (Tag → Bool) → List PlaylistLine → ℕ
number_told kind lines = unwrap_or (option_map (λ told. unwrap_or (number_of told.0) 0) (last_told kind lines)) 0

-- The segment of a URI, given the lines before it: its map is that of the last EXT-X-MAP before it, its section is the last
-- EXT-X-DISCONTINUITY-SEQUENCE plus one for each EXT-X-DISCONTINUITY before it, its duration and byte range are those of the
-- last EXTINF and EXT-X-BYTERANGE since the previous URI; a byte range without offset begins where the previous segment
-- ends, if that has a byte range of the same URL.
abbrev pub segment_behind : List ℕ → List PlaylistLine → List ℕ → MediaSegment
segment_behind url before text = let address = address_of url text in record {
  address = address;
  range = option_map (λ told. unwrap_or (range_from (former_end address (media_values url before).segments) told.0) no_range)
      (told_since is_byte_range before);
  map = option_map (λ told. map_value url told.0) (last_told is_map before);
  duration = unwrap_or (option_map (λ told. unwrap_or (duration_of told.0) 0) (told_since is_duration before)) 0;
  section = number_told is_first_section before + count_by (is_of is_discontinuity) before;
}

-- ---- laws

-- each URI ends a segment, which the lines before it determine
abbrev pub SegmentsAreTold : Type 0
SegmentsAreTold = (url : List ℕ) (before : List PlaylistLine) (text : List ℕ) (place : Place) (behind : List PlaylistLine)
    → slice_get (media_values url (before ++ uri text place ∷ behind)).segments (count_by is_uri before)
    ≡ Some (segment_behind url before text)

-- there is a segment for each URI, and the last tag of a kind gives a playlist's number
pub record IsTold (url : List ℕ) (lines : List PlaylistLine) : Type 0 where
  pub target : (media_values url lines).target ≡ number_told is_target lines
  pub sequence : (media_values url lines).sequence ≡ number_told is_sequence lines
  pub ended : (media_values url lines).ended ≡ is_some (last_told is_end lines)
  pub segments : length (media_values url lines).segments ≡ count_by is_uri lines

abbrev pub PlaylistsAreTold : Type 0
PlaylistsAreTold = (url : List ℕ) (lines : List PlaylistLine) → IsTold url lines

-- The lines of a written playlist, and their texts (RFC 8216, 4.3). Every line ends with one LF.
use Rattle.std.specs.{Prelude.{ℕ, ◌/◌, ◌^◌, List, [], ◌∷◌, ◌++◌, codes, decimal, ℤ}, List.flat_map}
use Rattle.iso_time.specs.{Civil.instant_text, Digits.{padded_digits, optional_text}}
use Rattle.url_parts.specs.{declared.address.Part.Part, declared.range.Range.Range}
use Rattle.hls_writer.specs.Attributes.{WrittenAttribute, attributes_bytes}

pub data WrittenLine : Type 0 where
  -- EXTM3U
  header : WrittenLine
  -- EXT-X-VERSION
  version : (number : ℕ) → WrittenLine
  -- EXT-X-INDEPENDENT-SEGMENTS
  independent_segments : WrittenLine
  -- EXT-X-TARGETDURATION
  target_duration : (seconds : ℕ) → WrittenLine
  -- EXT-X-MEDIA-SEQUENCE
  media_sequence : (number : ℕ) → WrittenLine
  -- EXT-X-DISCONTINUITY-SEQUENCE
  discontinuity_sequence : (number : ℕ) → WrittenLine
  -- EXT-X-PLAYLIST-TYPE:VOD
  on_demand : WrittenLine
  -- EXT-X-DISCONTINUITY
  discontinuity : WrittenLine
  -- EXT-X-MAP: the init segment of the segments from here on
  initialization : (part : Part) → WrittenLine
  -- EXT-X-PROGRAM-DATE-TIME: nanoseconds since 1970-01-01T00:00:00Z
  program_date_time : (instant : ℤ) → WrittenLine
  -- EXTINF: a number of units, of which 10 to the number of digits make a second
  duration : (digits units : ℕ) → WrittenLine
  -- EXT-X-BYTERANGE
  byte_range : (range : Range) → WrittenLine
  -- the URL of a segment, or a track's file
  uri : (address : List ℕ) → WrittenLine
  -- EXT-X-ENDLIST
  end_list : WrittenLine
  -- EXT-X-MEDIA of a master playlist
  rendition : (first : WrittenAttribute) (others : List WrittenAttribute) → WrittenLine
  -- EXT-X-STREAM-INF of a master playlist
  variant : (first : WrittenAttribute) (others : List WrittenAttribute) → WrittenLine

-- `<count>@<first>`
abbrev pub range_bytes : Range → List ℕ
range_bytes range = decimal range.count ++ 64 ∷ decimal range.first

-- `,BYTERANGE="<count>@<first>"`
abbrev pub range_attribute : Range → List ℕ
range_attribute range = codes ",BYTERANGE=\"" ++ range_bytes range ++ codes "\""

-- `<seconds>.<digits>`
abbrev pub seconds_bytes : (digits units : ℕ) → List ℕ
seconds_bytes digits units = decimal (units / 10 ^ digits) ++ 46 ∷ padded_digits digits units

-- a line without its end
unfoldable pub line_bytes : WrittenLine → List ℕ
line_bytes header = codes "#EXTM3U"
line_bytes (version number) = codes "#EXT-X-VERSION:" ++ decimal number
line_bytes independent_segments = codes "#EXT-X-INDEPENDENT-SEGMENTS"
line_bytes (target_duration seconds) = codes "#EXT-X-TARGETDURATION:" ++ decimal seconds
line_bytes (media_sequence number) = codes "#EXT-X-MEDIA-SEQUENCE:" ++ decimal number
line_bytes (discontinuity_sequence number) = codes "#EXT-X-DISCONTINUITY-SEQUENCE:" ++ decimal number
line_bytes on_demand = codes "#EXT-X-PLAYLIST-TYPE:VOD"
line_bytes discontinuity = codes "#EXT-X-DISCONTINUITY"
line_bytes (initialization part) = codes "#EXT-X-MAP:URI=\"" ++ part.address ++ codes "\"" ++ optional_text range_attribute part.range
line_bytes (program_date_time instant) = codes "#EXT-X-PROGRAM-DATE-TIME:" ++ instant_text instant
line_bytes (duration digits units) = codes "#EXTINF:" ++ seconds_bytes digits units ++ codes ","
line_bytes (byte_range range) = codes "#EXT-X-BYTERANGE:" ++ range_bytes range
line_bytes (uri address) = address
line_bytes end_list = codes "#EXT-X-ENDLIST"
line_bytes (rendition first others) = codes "#EXT-X-MEDIA:" ++ attributes_bytes first others
line_bytes (variant first others) = codes "#EXT-X-STREAM-INF:" ++ attributes_bytes first others

-- a line with its end
abbrev pub line_text : WrittenLine → List ℕ
line_text line = line_bytes line ++ 10 ∷ []

-- the text of some lines
abbrev pub lines_text : List WrittenLine → List ℕ
lines_text lines = flat_map line_text lines

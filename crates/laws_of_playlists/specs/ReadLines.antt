-- What written lines are read as (RFC 8216, 4.1).
use Rattle.hls_lines.specs.Lines as said
use Rattle.std.specs.Prelude.{IsUtf8, ◌≡◌, ℕ, ◌==◌, ◌&&◌, not, nat_le, Bool, true, false, ⊤, List, [], ◌∷◌, ◌++◌, codes, decimal, All, Ok}
use Rattle.bridge_io.specs.declared.place.Place.{Place}
use Rattle.iso_time.specs.{Civil.instant_text, Digits.optional_text}
use Rattle.url_parts.specs.{Spelling.begins_uri, declared.address.Part.Part}
use Rattle.hls_lines.specs.Lines.{PlaylistLine, behind, lines_of, start}
use Rattle.track_hints.specs.Labels.{has_control}
use Rattle.hls_writer.specs.{Attributes.attributes_bytes, Lines.{WrittenLine, header, version, target_duration, media_sequence}}
use Rattle.hls_writer.specs.Lines.{independent_segments}
use Rattle.hls_writer.specs.Lines.{discontinuity_sequence, on_demand, discontinuity, initialization, program_date_time, duration}
use Rattle.hls_writer.specs.Lines.{byte_range, uri, end_list, rendition, variant, line_bytes, lines_text, range_attribute, range_bytes}
use Rattle.hls_writer.specs.Lines.{seconds_bytes}

-- ---- lines that are read back as they were written

-- a space or a visible character of ASCII
abbrev pub is_printable : ℕ → Bool
is_printable b = nat_le 32 b && nat_le b 126

-- UTF-8 without control characters (RFC 8216, 4.1)
pub record IsPlain (text : List ℕ) : Type 0 where
  pub utf8 : IsUtf8 text
  pub free : has_control text ≡ false

-- a text doesn't end with a space
abbrev pub ends_visibly : List ℕ → Bool
ends_visibly [] = true
ends_visibly (b ∷ []) = not (b == 32)
ends_visibly (b ∷ (c ∷ bs)) = ends_visibly (c ∷ bs)

abbrev pub IsUriOrTag : WrittenLine → Type 0
IsUriOrTag (uri address) = begins_uri address ≡ true
IsUriOrTag _ = ⊤

pub record IsReadable (line : WrittenLine) : Type 0 where
  pub plain : IsPlain (line_bytes line)
  pub ends : ends_visibly (line_bytes line) ≡ true
  pub whole : IsUriOrTag line

-- ---- what they are read as

-- what follows `EXT-X-MAP:`
abbrev pub map_bytes : Part → List ℕ
map_bytes part = codes "URI=\"" ++ part.address ++ codes "\"" ++ optional_text range_attribute part.range

-- what a line at a position is read as
abbrev pub said_at : WrittenLine → Place → PlaylistLine
said_at header place = said.tag (codes "EXTM3U") [] place
said_at (version number) place = said.tag (codes "EXT-X-VERSION") (decimal number) place
said_at independent_segments place = said.tag (codes "EXT-X-INDEPENDENT-SEGMENTS") [] place
said_at (target_duration seconds) place = said.tag (codes "EXT-X-TARGETDURATION") (decimal seconds) place
said_at (media_sequence number) place = said.tag (codes "EXT-X-MEDIA-SEQUENCE") (decimal number) place
said_at (discontinuity_sequence number) place = said.tag (codes "EXT-X-DISCONTINUITY-SEQUENCE") (decimal number) place
said_at on_demand place = said.tag (codes "EXT-X-PLAYLIST-TYPE") (codes "VOD") place
said_at discontinuity place = said.tag (codes "EXT-X-DISCONTINUITY") [] place
said_at (initialization part) place = said.tag (codes "EXT-X-MAP") (map_bytes part) place
said_at (program_date_time instant) place = said.tag (codes "EXT-X-PROGRAM-DATE-TIME") (instant_text instant) place
said_at (duration digits units) place = said.tag (codes "EXTINF") (seconds_bytes digits units ++ codes ",") place
said_at (byte_range range) place = said.tag (codes "EXT-X-BYTERANGE") (range_bytes range) place
said_at (uri address) place = said.uri address place
said_at end_list place = said.tag (codes "EXT-X-ENDLIST") [] place
said_at (rendition first others) place = said.tag (codes "EXT-X-MEDIA") (attributes_bytes first others) place
said_at (variant first others) place = said.tag (codes "EXT-X-STREAM-INF") (attributes_bytes first others) place

-- what lines are read as, the first of which is at a position
abbrev pub said_from_place : Place → List WrittenLine → List PlaylistLine
said_from_place place [] = []
said_from_place place (line ∷ lines) = said_at line place ∷ said_from_place (behind (line_bytes line) place) lines

-- ---- law

-- written lines are read back as they were written
abbrev pub WrittenLinesAreRead : Type 0
WrittenLinesAreRead = (lines : List WrittenLine) → All IsReadable lines → lines_of (lines_text (header ∷ lines))
    ≡ Ok (said_from_place start (header ∷ lines))

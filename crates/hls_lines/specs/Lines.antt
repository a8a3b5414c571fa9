-- The lines of a playlist (RFC 8216 4.1): tags and URIs, without blank lines and comments.
use Rattle.std.specs.Prelude.{ℕ, ◌+◌, ◌-◌, ◌==◌, ◌||◌, ◌&&◌, not, is_some, Bool, true, false, List, [], ◌∷◌, length, take, codes, bytes_eq}
use Rattle.std.specs.{Prelude.{nat_eq, if◌then◌else◌, unwrap_or, Option, Some, None, Result, Ok, Err}, List.{starts_with, before_first}}
use Rattle.std.specs.{List.{slice_split, suffix_len}, Str.is_utf8, Str.Lossy.utf8_valid_len}
use Rattle.byte_scan.specs.Lines.{is_line_feed}
use Rattle.bridge_io.specs.{Places.place_of, declared.place.Place.Place}
use Rattle.hls_lines.specs.{Characters.first_control, Marks.{after_mark, parts_at}, declared.fault.LineFault.LineFault}
use Rattle.hls_lines.specs.declared.fault.LineFault.TheVariants.{NotUtf8, BadChar, Header, Memory}

-- a line that isn't ignored, with the position of its first byte
pub data PlaylistLine : Type 0 where
  -- a tag's name without its `#`, and what follows its first `:`
  tag : (name rest : List ℕ) (place : Place) → PlaylistLine
  uri : (text : List ℕ) (place : Place) → PlaylistLine

abbrev pub is_uri : PlaylistLine → Bool
is_uri (tag name rest place) = false
is_uri (uri text place) = true

-- space, tab or CR
abbrev pub is_blank : ℕ → Bool
is_blank b = b == 32 || b == 9 || b == 13

abbrev pub is_colon : ℕ → Bool
is_colon b = b == 58

-- a line without trailing blanks
abbrev pub trimmed : List ℕ → List ℕ
trimmed line = take (length line - suffix_len is_blank line) line

-- a tag's name and what follows its first `:`
abbrev pub tag_parts : List ℕ → List ℕ × List ℕ
tag_parts text = unwrap_or (parts_at is_colon text) (text, [])

-- a line with a `#`: a tag where `EXT` follows it, and else a comment
abbrev pub marked_line : List ℕ → Place → Option PlaylistLine
marked_line text place =
    if starts_with nat_eq text (codes "EXT") then Some (tag (tag_parts text).0 (tag_parts text).1 place) else None

-- what a line with a `#` means, or else the line itself
abbrev pub line_behind : Option (List ℕ) → List ℕ → Place → Option PlaylistLine
line_behind (Some marked) text place = marked_line marked place
line_behind None text place = Some (uri text place)

-- what a line without trailing blanks means
abbrev pub line_of : List ℕ → Place → Option PlaylistLine
line_of text place = if length text == 0 then None else line_behind (after_mark 35 text) text place

-- a line without trailing blanks is a URI
abbrev pub is_uri_line : List ℕ → Bool
is_uri_line text = not (length text == 0) && not (is_some (after_mark 35 text))

-- the position of the next line
abbrev pub behind : List ℕ → Place → Place
behind line place = record { at = place.at + length line + 1; line = place.line + 1 }

-- a line, where there is one, before others
abbrev pub with_line : Option PlaylistLine → List PlaylistLine → List PlaylistLine
with_line None others = others
with_line (Some line) others = line ∷ others

-- what lines mean, the first of which is at a position
abbrev pub said_from : Place → List (List ℕ) → List PlaylistLine
said_from place [] = []
said_from place (line ∷ lines) = with_line (line_of (trimmed line) place) (said_from (behind line place) lines)

-- the same for a text whose lines end with LF or at its end
abbrev pub text_lines : Place → List ℕ → List PlaylistLine
text_lines place text = said_from place (slice_split is_line_feed text)

abbrev pub start : Place
start = record { at = 0; line = 1 }

-- the first line is `#EXTM3U`
abbrev pub has_header : List ℕ → Bool
has_header bytes = bytes_eq (trimmed (before_first is_line_feed bytes)) (codes "#EXTM3U")

abbrev pub lines_with_header : List ℕ → Result (List PlaylistLine) LineFault
lines_with_header text = if has_header text then Ok (text_lines start text) else Err (Header start)

abbrev pub unless_control : List ℕ → Option ℕ → Result (List ℕ) LineFault
unless_control bytes None = Ok bytes
unless_control bytes (Some at) = Err (BadChar (place_of bytes at))

-- the bytes, where they are a text without control characters, or the first fault of the whole file
unfoldable pub clean : List ℕ → Result (List ℕ) LineFault
clean bytes = if is_utf8 bytes then unless_control bytes (first_control bytes)
    else Err (NotUtf8 (place_of bytes (utf8_valid_len bytes)))

abbrev pub lines_if_clean : Result (List ℕ) LineFault → Result (List PlaylistLine) LineFault
lines_if_clean (Ok text) = lines_with_header text
lines_if_clean (Err fault) = Err fault

-- The lines of a playlist, or the first fault of the whole file.
unfoldable pub lines_of : List ℕ → Result (List PlaylistLine) LineFault
lines_of bytes = lines_if_clean (clean bytes)

-- out of memory says nothing about the text
abbrev pub refusal : LineFault → Option LineFault
refusal Memory = None
refusal fault = Some fault

-- The lines of a playlist as a grammar (RFC 8216 4.1): which texts have which tags and URIs, and where.
use Rattle.std.specs.Prelude.{◌≡◌, ℕ, ◌+◌, ◌<◌, ◌↔◌, ◌⊎◌, ◌||◌, drop, not, Bool, true, false, List, [], ◌∷◌, ◌++◌, length, count_by, codes}
use Rattle.std.specs.{Prelude.{nat_eq, Option, Some, None, Ok, Err}, List.{join_with_byte, list_any, list_all, starts_with}, Str.is_utf8}
use Rattle.std.specs.Str.Lossy.{utf8_valid_len}
use Rattle.byte_scan.specs.{Class.is_outside, declared.class.Class.TheVariants.Playlist, Lines.is_line_feed}
use Rattle.bridge_io.specs.{Places.place_of, declared.place.Place.Place}
use Rattle.hls_lines.specs.{Characters.{begins_with_high_control, first_control}, Lines.{PlaylistLine, has_header, is_blank, is_colon}}
use Rattle.hls_lines.specs.{Lines.{lines_of, start, tag, uri, with_line}, declared.fault.LineFault.TheVariants.{BadChar, Header, NotUtf8}}

-- A text is empty, or ends with a byte that isn't a blank.
abbrev pub EndsUnblank : List ℕ → Type 0
EndsUnblank text = (text ≡ []) ⊎ ((front : List ℕ) × ((last : ℕ) × ((text ≡ front ++ last ∷ []) × (is_blank last ≡ false))))

-- A line without trailing spaces, tabs and CRs.
pub record IsTrimmed (line kept : List ℕ) : Type 0 where
  pub blanks : List ℕ
  pub is : line ≡ kept ++ blanks
  pub dropped : list_all is_blank blanks ≡ true
  pub ends : EndsUnblank kept

-- `#`, and a name that begins with `EXT`, up to the first `:`, or to the end where there is none.
pub record IsTag (line name rest : List ℕ) : Type 0 where
  pub text : List ℕ
  pub is : line ≡ 35 ∷ text
  pub marked : starts_with nat_eq text (codes "EXT") ≡ true
  pub parts : (text ≡ name ++ 58 ∷ rest) ⊎ ((text ≡ name) × (rest ≡ []))
  pub free : list_any is_colon name ≡ false

-- A line that isn't blank and doesn't begin with `#`.
pub record IsUri (line text : List ℕ) : Type 0 where
  pub is : text ≡ line
  pub some : 0 < length line
  pub unmarked : (more : List ℕ) → line ≡ 35 ∷ more → ⊥

-- `#` without `EXT` after it.
pub record IsComment (line : List ℕ) : Type 0 where
  pub text : List ℕ
  pub is : line ≡ 35 ∷ text
  pub unmarked : starts_with nat_eq text (codes "EXT") ≡ false

-- what a line without trailing blanks means, if it isn't ignored
abbrev pub Says : List ℕ → Place → Option PlaylistLine → Type 0
Says line place None = (line ≡ []) ⊎ IsComment line
Says line place (Some (tag name rest at)) = IsTag line name rest × (at ≡ place)
Says line place (Some (uri text at)) = IsUri line text × (at ≡ place)

-- what a line means, and then what the others mean
pub record IsSaid (line : List ℕ) (place : Place) (Others : List PlaylistLine → Type 0) (said : List PlaylistLine) : Type 0 where
  pub kept : List ℕ
  pub trimmed : IsTrimmed line kept
  pub what : Option PlaylistLine
  pub says : Says kept place what
  pub others : List PlaylistLine
  pub is : said ≡ with_line what others
  pub others_are : Others others

-- the position after a text: as many bytes, and one line more than LF
abbrev pub place_behind : List ℕ → Place
place_behind text = record { at = length text; line = count_by is_line_feed text + 1 }

-- what lines after a text mean
abbrev pub AreSaid : List ℕ → List (List ℕ) → List PlaylistLine → Type 0
AreSaid before [] said = said ≡ []
AreSaid before (line ∷ lines) said = IsSaid line (place_behind before) (AreSaid (before ++ (line ++ 10 ∷ [])) lines) said

abbrev pub has_no_feed : List ℕ → Bool
has_no_feed line = not (list_any is_line_feed line)

-- A text is one line or more, joined by LF, and means what they mean.
pub record AreLines (text : List ℕ) (said : List PlaylistLine) : Type 0 where
  pub lines : List (List ℕ)
  pub some : 0 < length lines
  pub joined : text ≡ join_with_byte 10 lines
  pub free : list_all has_no_feed lines ≡ true
  pub said_are : AreSaid [] lines said

-- a control character other than tab, LF and CR begins the bytes
abbrev pub begins_with_control : List ℕ → Bool
begins_with_control [] = false
begins_with_control (b ∷ bs) = is_outside Playlist b || begins_with_high_control (b ∷ bs)

-- this is the index of the first such character, or there is none
abbrev pub IsFirstControl : List ℕ → Option ℕ → Type 0
IsFirstControl bytes None = (k : ℕ) → begins_with_control (drop k bytes) ≡ false
IsFirstControl bytes (Some at) = (begins_with_control (drop at bytes) ≡ true)
    × ((k : ℕ) → k < at → begins_with_control (drop k bytes) ≡ false)

-- Bytes that are UTF-8 without control characters, and whose first line is the header.
pub record IsPlaylist (bytes : List ℕ) : Type 0 where
  pub utf8 : is_utf8 bytes ≡ true
  pub clean : first_control bytes ≡ None
  pub header : has_header bytes ≡ true

-- ---- laws

-- lines are read from exactly the playlists that have them
abbrev pub LinesAreSaid : Type 0
LinesAreSaid = (bytes : List ℕ) (said : List PlaylistLine) → (lines_of bytes ≡ Ok said) ↔ (IsPlaylist bytes × AreLines bytes said)

-- the faults of whole files, each reported where the former ones don't apply
pub record FileFaultsAre (bytes : List ℕ) : Type 0 where
  pub not_utf8 : is_utf8 bytes ≡ false → lines_of bytes ≡ Err (NotUtf8 (place_of bytes (utf8_valid_len bytes)))
  pub bad_char : is_utf8 bytes ≡ true → (at : ℕ) → first_control bytes ≡ Some at → lines_of bytes ≡ Err (BadChar (place_of bytes at))
  pub header : is_utf8 bytes ≡ true → first_control bytes ≡ None → has_header bytes ≡ false → lines_of bytes ≡ Err (Header start)

abbrev pub FileFaultsAreInOrder : Type 0
FileFaultsAreInOrder = (bytes : List ℕ) → FileFaultsAre bytes

-- the index of the first control character
abbrev pub FirstControlIsFirst : Type 0
FirstControlIsFirst = (bytes : List ℕ) → IsFirstControl bytes (first_control bytes)

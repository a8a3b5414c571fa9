-- Lists of codecs: RFC 6381, as in `codecs` of ISO/IEC 23009-1, 5.3.7.2.
use Rattle.url_parts.specs.declared.code.CodeClass.TheVariants as class
use Rattle.std.specs.{Prelude.{ℕ, ◌==◌, ◌&&◌, nat_lt, nat_le, not, Bool, true, false, List, map, length}, List.{list_all, list_any}}
use Rattle.std.specs.List.{slice_split}
use Rattle.bridge_io.specs.{declared.media.Kind.Kind, declared.media.Kind.TheVariants.{Video, Audio, Text}}
use Rattle.url_parts.specs.{declared.code.CodeClass.CodeClass, Codes.class_of}
use Rattle.mpd_values.specs.{declared.blank.Blank.TheVariants.Space, Blanks.trimmed}

-- a printable ASCII character or a space, except `"`
abbrev pub is_code_char : ℕ → Bool
is_code_char b = nat_le 32 b && (nat_le b 126 && not (b == 34))

-- what is between the commas, spaces around it dropped
unfoldable pub codes_of : List ℕ → List (List ℕ)
codes_of text = map (trimmed Space) (slice_split (λ b. b == 44) text)

abbrev pub is_code : List ℕ → Bool
is_code code = nat_lt 0 (length code)

-- a list of codecs, none of which is empty
abbrev pub are_codes : List ℕ → Bool
are_codes text = list_all is_code_char text && list_all is_code (codes_of text)

-- the same, of at most 255 characters
abbrev pub are_read_codes : List ℕ → Bool
are_read_codes text = nat_le (length text) 255 && are_codes text

-- a codec of unknown class agrees with every kind
abbrev pub agrees : Kind → CodeClass → Bool
agrees kind class.Unknown = true
agrees Video class.Video = true
agrees Video class.Audio = false
agrees Video class.Text = false
agrees Audio class.Video = false
agrees Audio class.Audio = true
agrees Audio class.Text = false
agrees Text class.Video = false
agrees Text class.Audio = false
agrees Text class.Text = true

abbrev pub is_foreign : Kind → List ℕ → Bool
is_foreign kind code = not (agrees kind (class_of code))

-- a list of codecs has one of another class than this kind; a text that is no such list has none
unfoldable pub has_foreign_code : Kind → List ℕ → Bool
has_foreign_code kind text = are_read_codes text && list_any (is_foreign kind) (codes_of text)

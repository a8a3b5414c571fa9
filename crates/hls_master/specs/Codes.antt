-- Lists of codecs (RFC 6381) by the class of each codec.
use Rattle.bridge_io.specs.declared.media.Kind.TheVariants as kind
use Rattle.std.specs.{Prelude.{ℕ, Bool, true, false, List, [], ◌∷◌, filter, Option, Some, None}, List.{list_any, join_with_byte}}
use Rattle.bridge_io.specs.declared.media.Kind.{Kind}
use Rattle.url_parts.specs.{declared.code.CodeClass.CodeClass, declared.code.CodeClass.TheVariants.{Video, Audio, Text, Unknown}}
use Rattle.url_parts.specs.Codes.{class_of}
use Rattle.mpd_values.specs.Codecs.{codes_of}

-- a track of a kind has the codecs of this class; a video track also those of unknown class
abbrev pub belongs : Kind → CodeClass → Bool
belongs kind.Video Video = true
belongs kind.Video Unknown = true
belongs kind.Video class = false
belongs kind.Audio Audio = true
belongs kind.Audio class = false
belongs kind.Text Text = true
belongs kind.Text class = false

abbrev pub is_of : Kind → List ℕ → Bool
is_of kind code = belongs kind (class_of code)

-- a list of codecs has one for a track of this kind
unfoldable pub has_code : Kind → List ℕ → Bool
has_code kind text = list_any (is_of kind) (codes_of text)

abbrev pub has_code_in : Kind → Option (List ℕ) → Bool
has_code_in kind None = false
has_code_in kind (Some text) = has_code kind text

abbrev pub joined : List (List ℕ) → Option (List ℕ)
joined [] = None
joined (code ∷ others) = Some (join_with_byte 44 (code ∷ others))

-- the codecs of a list for a track of this kind
unfoldable pub selected : Kind → List ℕ → Option (List ℕ)
selected kind text = joined (filter (is_of kind) (codes_of text))

-- Families of codecs: what tells which decoders can play a track.
use Rattle.std.specs.Prelude.{ℕ, ◌+◌, ◌==◌, Bool, List, [], ◌∷◌, ◌++◌, map, take, drop, position, bytes_eq, codes, Option, Some, None}
use Rattle.std.specs.{Prelude.{if◌then◌else◌, option_map}, List.{flat_map, slice_split}, Char.to_ascii_lowercase}
use Rattle.presentation.specs.declared.track.Track.{Track}

abbrev pub is_dot : ℕ → Bool
is_dot b = b == 46

abbrev pub before : List ℕ → Option ℕ → List ℕ
before text None = text
before text (Some place) = take place text

-- The object type in what is behind `mp4a.`: the part before the next dot. MPEG-D USAC (`40.42`) is apart from the other audio of MPEG-4.
abbrev pub object_in : List ℕ → List ℕ
object_in text = if bytes_eq text (codes "40.42") then text else before text (position is_dot text)

abbrev pub named : (name behind : List ℕ) → List ℕ
named name behind = if bytes_eq name (codes "mp4a") then name ++ 46 ∷ object_in behind else name

abbrev pub family_at : List ℕ → Option ℕ → List ℕ
family_at code None = code
family_at code (Some dot) = named (take dot code) (drop (dot + 1) code)

-- the family of a code (RFC 6381, 3.3) in lower case: what is before its first dot, and of `mp4a` the object type as well
abbrev pub family_of : List ℕ → List ℕ
family_of code = family_at code (position is_dot code)

abbrev pub family_part : List ℕ → List ℕ
family_part code = family_of code ++ 44 ∷ []

-- the family of some codecs: that of each code, in order, with a comma behind it
abbrev pub family_of_lower : List ℕ → List ℕ
family_of_lower codecs = flat_map family_part (slice_split (λ b. b == 44) codecs)

abbrev pub family_in : List ℕ → List ℕ
family_in codecs = family_of_lower (map to_ascii_lowercase codecs)

-- a track with its family in place of its codecs
abbrev pub in_family : Track → Track
in_family track = record {
  kind = track.kind;
  set = track.set;
  language = None;
  codecs = option_map family_in track.codecs;
  bandwidth = track.bandwidth;
  size = track.size;
  frame_rate = track.frame_rate;
}

abbrev pub in_families : List Track → List Track
in_families tracks = map in_family tracks

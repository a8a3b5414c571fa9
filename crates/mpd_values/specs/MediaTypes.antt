-- Media types: RFC 4337 for mp4, compared ignoring ASCII case.
use Rattle.std.specs.{Prelude.{ℕ, Bool, List, map, bytes_eq, codes, if◌then◌else◌, Option, Some, None}, Char.to_ascii_lowercase}
use Rattle.bridge_io.specs.{declared.media.Kind.Kind, declared.media.Kind.TheVariants.{Video, Audio, Text}}

-- equal, ignoring ASCII case
abbrev pub is_alike : (text other : List ℕ) → Bool
is_alike text other = bytes_eq (map to_ascii_lowercase text) (map to_ascii_lowercase other)

-- the kind of track of a media type; `None` where it is none of the three
unfoldable pub kind_of : List ℕ → Option Kind
kind_of text = if is_alike text (codes "video/mp4") then Some Video
    else if is_alike text (codes "audio/mp4") then Some Audio
    else if is_alike text (codes "application/mp4") then Some Text
    else None

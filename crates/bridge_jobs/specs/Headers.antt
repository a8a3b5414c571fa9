-- Headers of update frames.
use Rattle.std.specs.Prelude.{ℕ, ℤ, ◌+◌, ◌==◌, nat_le, codes, bytes_eq, List, take, drop, position, if◌then◌else◌, Option, Some, None}
use Rattle.std.specs.Prelude.{option_map}
use Rattle.bridge_jobs.specs.{Numbers.decimal_of, Jobs.{◌>>=◌, instant_in}, declared.header.Header.Header}
use Rattle.bridge_jobs.specs.declared.header.Header.TheVariants.{Mpd, Reset, Tick}

-- what is before a text's first space, and what is after it
abbrev pub cut_at : List ℕ → Option ℕ → Option (List ℕ × List ℕ)
cut_at text None = None
cut_at text (Some space) = Some (take space text, drop (space + 1) text)

abbrev pub cut_at_space : List ℕ → Option (List ℕ × List ℕ)
cut_at_space text = cut_at text (position (λ b. b == 32) text)

-- the most bytes that a body has
abbrev pub most_bytes : ℕ
most_bytes = 8_388_608

abbrev pub within_most : ℕ → Option ℕ
within_most length = if nat_le length most_bytes then Some length else None

-- the length of a body: 1 to 7 digits, at most 8,388,608
unfoldable pub length_of : List ℕ → Option ℕ
length_of digits = decimal_of 7 digits >>= within_most

-- `<instant> <length>`
unfoldable pub manifest_of : List ℕ → Option (ℤ × ℕ)
manifest_of text = do
  parts ← cut_at_space text
  now ← instant_in parts.0
  length ← length_of parts.1
  Some (now, length)

-- a header, by its first word and what follows it
abbrev pub header_by : List ℕ → List ℕ → Option Header
header_by word text =
    if bytes_eq word (codes "mpd") then option_map (λ p. Mpd p.0 p.1) (manifest_of text)
    else if bytes_eq word (codes "reset") then option_map (λ p. Reset p.0 p.1) (manifest_of text)
    else if bytes_eq word (codes "tick") then option_map Tick (instant_in text)
    else None

-- a header line without its LF: `mpd <instant> <length>`, `reset <instant> <length>` or `tick <instant>`
unfoldable pub header_of : List ℕ → Option Header
header_of line = do
  parts ← cut_at_space line
  header_by parts.0 parts.1

abbrev pub body_length : Header → ℕ
body_length (Mpd now length) = length
body_length (Reset now length) = length
body_length (Tick now) = 0

-- the timestamp of a header
abbrev pub instant_at : Header → ℤ
instant_at (Mpd now length) = now
instant_at (Reset now length) = now
instant_at (Tick now) = now

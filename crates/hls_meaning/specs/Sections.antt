-- The sections of media playlists: the segments of one discontinuity sequence number (RFC 8216, 4.3.3.3), whose times are
-- sums of the durations before them in the section.
use Rattle.std.specs.Prelude.{ℕ, ◌+◌, ◌^◌, ◌==◌, nat_lt, Bool, List, [], ◌∷◌, filter, if◌then◌else◌, Option, Some, None, unwrap_or}
use Rattle.exact_time.specs.Time.{Time, in_units}
use Rattle.url_parts.specs.declared.address.Part.{Part}
use Rattle.hls_media.specs.declared.media.MediaSegment.{MediaSegment}
use Rattle.meaning.specs.Meanings.{Segment, Entry}

-- a number inserted into rising ones, unless it is there already
abbrev pub with_number : ℕ → List ℕ → List ℕ
with_number n [] = n ∷ []
with_number n (m ∷ later) = if n == m then m ∷ later else (if nat_lt n m then n ∷ m ∷ later else m ∷ with_number n later)

-- the numbers of the sections of some segments among those of others, each once, rising
abbrev pub numbers_with : List ℕ → List MediaSegment → List ℕ
numbers_with numbers [] = numbers
numbers_with numbers (s ∷ later) = numbers_with (with_number s.section numbers) later

-- the segments of a section
abbrev pub is_in : ℕ → MediaSegment → Bool
is_in number s = s.section == number

abbrev pub segments_in : ℕ → List MediaSegment → List MediaSegment
segments_in number segments = filter (is_in number) segments

-- a number of nanoseconds
abbrev pub nanoseconds : ℕ → Time
nanoseconds count = in_units (10 ^ 9) count

abbrev pub part_of : MediaSegment → Part
part_of s = record { address = s.address; range = s.range }

-- each segment begins where the one before it ends, the first one at a number of nanoseconds
abbrev pub timed : ℕ → List MediaSegment → List Segment
timed start [] = []
timed start (s ∷ later) =
    record { part = part_of s; start = nanoseconds start; end = nanoseconds (start + s.duration) } ∷ timed (start + s.duration) later

abbrev pub no_part : Part
no_part = record { address = []; range = None }

-- the entry of some segments: the first one's map, and each one with its times
abbrev pub entry_of : List MediaSegment → Option Entry
entry_of [] = None
entry_of (s ∷ later) = Some (record { initialization = unwrap_or s.map no_part; segments = timed 0 (s ∷ later) })

-- what a track has in a section
abbrev pub entry_in : (segments : List MediaSegment) → (number : ℕ) → Option Entry
entry_in segments number = entry_of (segments_in number segments)

-- The sections of media playlists: the segments of one discontinuity sequence number (RFC 8216 4.3.3.3).
use Rattle.std.specs.Prelude.{ℕ, ◌==◌, ◌^◌, ◌||◌, not, nat_le, nat_lt, max, Bool, true, false, List, [], ◌∷◌, ◌++◌, length, map, slice_get}
use Rattle.std.specs.{Prelude.{sum_by, unwrap_or, if◌then◌else◌}, List.{list_any, list_all, range_with_len}}
use Rattle.hls_media.specs.declared.media.MediaSegment.{MediaSegment}
use Rattle.layer_faults.specs.declared.hls.HlsFault.{HlsFault}
use Rattle.layer_faults.specs.declared.hls.HlsFault.TheVariants.{SectionsDiffer, Limit, NoTracks}
use Rattle.hls_presentation.specs.Tracks.{Source, fault_if}

-- the segment is of this section
abbrev pub is_of : ℕ → MediaSegment → Bool
is_of section s = section == s.section

-- a segment added before the groups of those after it
abbrev pub put_before : MediaSegment → List (List MediaSegment) → List (List MediaSegment)
put_before s [] = (s ∷ []) ∷ []
put_before s ([] ∷ groups) = (s ∷ []) ∷ groups
put_before s ((next ∷ rest) ∷ groups) = if s.section == next.section then (s ∷ next ∷ rest) ∷ groups else (s ∷ []) ∷ (next ∷ rest) ∷ groups

-- the segments of a track, cut where the section changes
abbrev pub groups_of : List MediaSegment → List (List MediaSegment)
groups_of [] = []
groups_of (s ∷ rest) = put_before s (groups_of rest)

-- a track's groups, one for each of its sections
abbrev pub groups_in : Source → List (List MediaSegment)
groups_in s = groups_of s.media.segments

-- two tracks have the same section numbers
abbrev pub starts_alike : List MediaSegment → List MediaSegment → Bool
starts_alike [] [] = true
starts_alike [] (s ∷ rest) = false
starts_alike (s ∷ rest) [] = false
starts_alike (s ∷ rest) (other ∷ others) = s.section == other.section

abbrev pub are_alike : List (List MediaSegment) → List (List MediaSegment) → Bool
are_alike [] [] = true
are_alike [] (g ∷ groups) = false
are_alike (g ∷ groups) [] = false
are_alike (g ∷ groups) (h ∷ others) = if starts_alike g h then are_alike groups others else false

abbrev pub all_alike : List (List (List MediaSegment)) → Bool
all_alike [] = true
all_alike (first ∷ rest) = list_all (are_alike first) rest

-- the total duration of a group's segments, in nanoseconds
abbrev pub length_of : List MediaSegment → ℕ
length_of group = sum_by (λ s. s.duration) group

-- how many sections there are: those of the first track
abbrev pub section_count : List (List (List MediaSegment)) → ℕ
section_count [] = 0
section_count (first ∷ rest) = length first

-- the segments of a track in the section at an index
abbrev pub group_at : ℕ → List (List MediaSegment) → List MediaSegment
group_at place groups = unwrap_or (slice_get groups place) []

abbrev pub row_at : List (List (List MediaSegment)) → ℕ → List (List MediaSegment)
row_at tracks place = map (group_at place) tracks

-- `count` sections from an index on, each with the segments of each track
abbrev pub rows_from : List (List (List MediaSegment)) → (place count : ℕ) → List (List (List MediaSegment))
rows_from tracks place count = map (row_at tracks) (range_with_len place count)

-- all sections
abbrev pub rows_of : List (List (List MediaSegment)) → List (List (List MediaSegment))
rows_of tracks = rows_from tracks 0 (section_count tracks)

-- the greatest of some numbers
abbrev pub greatest : List ℕ → ℕ
greatest [] = 0
greatest (n ∷ ns) = max n (greatest ns)

-- a section lasts as long as its longest track
abbrev pub row_length : List (List MediaSegment) → ℕ
row_length row = greatest (map length_of row)

-- some track lasts 2^63 nanoseconds or more in the section
abbrev pub is_too_long : List (List MediaSegment) → Bool
is_too_long row = nat_le (2 ^ 63) (row_length row)

abbrev pub is_over_limit : List (List (List MediaSegment)) → Bool
is_over_limit rows = list_any is_too_long rows || (nat_le (10 ^ 19) (sum_by row_length rows) || nat_lt 1000 (length rows))

-- all errors of the kept tracks together, in order
abbrev pub whole_faults : List (List (List MediaSegment)) → List HlsFault
whole_faults tracks = fault_if (not (all_alike tracks)) SectionsDiffer
    ++ (fault_if (is_over_limit (rows_of tracks)) Limit ++ fault_if (section_count tracks == 0) NoTracks)

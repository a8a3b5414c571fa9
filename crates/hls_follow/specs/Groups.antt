-- The sections of a track: the segments of one discontinuity sequence number (RFC 8216 4.3.3.3).
use Rattle.std.specs.Prelude.{ℕ, ◌==◌, max, Bool, List, [], ◌∷◌, map, slice_get, unwrap_or, if◌then◌else◌}
use Rattle.hls_follow.specs.Times.{TimedSegment, timed_end}

-- the segment is of this section
abbrev pub is_of : ℕ → TimedSegment → Bool
is_of section t = section == t.segment.section

-- a segment added before the groups of those after it
abbrev pub put_before : TimedSegment → List (List TimedSegment) → List (List TimedSegment)
put_before t [] = (t ∷ []) ∷ []
put_before t ([] ∷ groups) = (t ∷ []) ∷ groups
put_before t ((next ∷ rest) ∷ groups) =
    if t.segment.section == next.segment.section then (t ∷ next ∷ rest) ∷ groups else (t ∷ []) ∷ (next ∷ rest) ∷ groups

-- the segments of a track, cut where the section changes
abbrev pub groups_of : List TimedSegment → List (List TimedSegment)
groups_of [] = []
groups_of (t ∷ rest) = put_before t (groups_of rest)

-- the segments of a track, or of each track, in the section at an index
abbrev pub group_at : ℕ → List (List TimedSegment) → List TimedSegment
group_at place groups = unwrap_or (slice_get groups place) []

abbrev pub row_at : List (List (List TimedSegment)) → ℕ → List (List TimedSegment)
row_at tracks place = map (group_at place) tracks

-- when the last of some segments ends
abbrev pub group_end : List TimedSegment → ℕ
group_end [] = 0
group_end (t ∷ rest) = max (timed_end t) (group_end rest)

-- and the last of all tracks'
abbrev pub row_end : List (List TimedSegment) → ℕ
row_end [] = 0
row_end (group ∷ row) = max (group_end group) (row_end row)

-- What a manifest means, by whichever standard it is written (ISO/IEC 23009-1, 5.3; RFC 8216, 4.3).
use Rattle.std.specs.Prelude.{ℕ, List, Option}
use Rattle.exact_time.specs.Time.{Time}
use Rattle.bridge_io.specs.declared.media.Kind.{Kind}
use Rattle.url_parts.specs.declared.address.Part.{Part}

-- a segment: its file or byte range, and its start and end, relative to its section's start
pub record Segment : Type 0 where
  pub part : Part
  pub start : Time
  pub end : Time

-- the content of a track in a section: its init segment, and its segments in order
pub record Entry : Type 0 where
  pub initialization : Part
  pub segments : List Segment

-- A track: its kind, its language where it is known, and its content in each section in order. A video track has no
-- language, since a playlist can't give one.
pub record Track : Type 0 where
  pub kind : Kind
  pub language : Option (List ℕ)
  pub entries : List (Option Entry)

-- A presentation: how many sections it has, and its tracks in order. A section is a Period, or the segments of one
-- discontinuity sequence number.
pub record Meaning : Type 0 where
  pub sections : ℕ
  pub tracks : List Track

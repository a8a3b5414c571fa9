-- Laws of playlists that were read.
use Rattle.std.specs.{Prelude.{◌≡◌, ℕ, ◌^◌, ◌<◌, ◌≤◌, List, length, Ok, IfSome}, List.All, List.Sorted.IsNonDecreasingBy}
use Rattle.hls_lines.specs.Lines.{PlaylistLine, lines_of}
use Rattle.url_parts.specs.{declared.address.Part.Part, declared.range.Range.Range}
use Rattle.hls_media.specs.{Media.{media_of, media_values}, Values.end_of, declared.media.Media.Media}
use Rattle.hls_media.specs.declared.media.MediaSegment.{MediaSegment}

-- ---- bounds

-- A byte range isn't empty, and ends below 2^63.
pub record IsBoundedRange (range : Range) : Type 0 where
  pub count : 1 ≤ range.count
  pub ends : end_of range < 2 ^ 63

abbrev pub IsBoundedPart : Part → Type 0
IsBoundedPart part = IfSome part.range IsBoundedRange

-- A segment lasts at most 1,000,000 seconds, in nanoseconds.
pub record IsBoundedSegment (segment : MediaSegment) : Type 0 where
  pub duration : segment.duration ≤ 10 ^ 15
  pub range : IfSome segment.range IsBoundedRange
  pub map : IfSome segment.map IsBoundedPart

-- The numbers of a playlist are bounded, and no section's number is below that of an earlier segment.
pub record IsBounded (media : Media) : Type 0 where
  pub target : media.target < 2 ^ 31
  pub sequence : media.sequence < 2 ^ 63
  pub few : length media.segments ≤ 100_000
  pub segments : All IsBoundedSegment media.segments
  pub sections : IsNonDecreasingBy (λ segment. segment.section) media.segments

-- what is read is bounded
abbrev pub ReadIsBounded : Type 0
ReadIsBounded = (bytes url : List ℕ) (media : Media) → media_of bytes url ≡ Ok media → IsBounded media

-- what is read is what the lines of the file mean
abbrev pub ReadIsMeant : Type 0
ReadIsMeant = (bytes url : List ℕ) (media : Media) → media_of bytes url ≡ Ok media → (lines : List PlaylistLine)
    × ((lines_of bytes ≡ Ok lines) × (media_values url lines ≡ media))

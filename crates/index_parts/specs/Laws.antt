-- Laws of the segments of a `sidx`.
use Rattle.std.specs.Prelude.{◌≡◌, ℕ, ◌+◌, List, [], ◌∷◌, map, length, take, drop, All, Option, Some, None, Ok}
use Rattle.bridge_io.specs.Outside.{Files}
use Rattle.exact_time.specs.Time.{in_units}
use Rattle.segment_index.specs.{declared.reference.Reference.Reference, Index.{Index, index_of}, Laws.{Tile, end_from, extents_from}}
use Rattle.timeline.specs.{declared.names.Names.TheVariants.Addresses, Expansions.{Closed, Extent}}
use Rattle.url_parts.specs.{Addresses.{chain, local_name_of}, declared.address.Part.Part, declared.range.Range.Range}
use Rattle.index_parts.specs.{declared.located.Listed.Listed, Located.track_parts, Rows.{Row, told_in}}

-- the offset of the first byte of a part, and of the first one after it
abbrev pub bytes_by : Option Range → ℕ × ℕ
bytes_by None = (0, 0)
bytes_by (Some range) = (range.first, range.first + range.count)

abbrev pub bytes_of : Part → ℕ × ℕ
bytes_of part = bytes_by part.range

-- each segment begins when the one before it ends, from a tick on, and lasts as long as its reference says
abbrev pub LastAs : (timescale start : ℕ) → List Reference → List Extent → Type 0
LastAs timescale start [] [] = Unit {0}
LastAs timescale start [] (x ∷ xs) = ⊥
LastAs timescale start (r ∷ rs) [] = ⊥
LastAs timescale start (r ∷ rs) (x ∷ xs) =
    (x.start ≡ in_units timescale start) × (x.end ≡ in_units timescale (start + r.duration)) × LastAs timescale (start + r.duration) rs xs

-- A Representation's segments are those of the first `sidx` in the index range of its file. They are byte ranges of that file, one
-- for each reference, in order: each has the size of its reference, they follow one another, from the first byte that the `sidx`
-- covers up to the end of the last one, and each lasts as long as its reference says.
pub record IsIndexed (url folder : List ℕ) (files : Files) (row : Row) (listed : Listed) : Type 0 where
  pub address : List ℕ
  pub file : List ℕ
  pub bytes : List ℕ
  pub index : Index
  pub parts : List Part
  pub extents : List Extent
  pub addressed : chain url row.description.bases ≡ Ok address
  pub named : local_name_of folder address ≡ Some file
  pub there : files file ≡ Some bytes
  pub found : let range = (told_in row).range in
      index_of (record { at = range.first; bytes = take range.count (drop range.first bytes) }) ≡ Ok (Some index)
  pub names : listed.content.runs.names ≡ Addresses parts
  pub members : listed.content.runs.members ≡ map Closed extents
  pub many : listed.segments ≡ length index.references
  pub own : All (λ part. part.address ≡ address) parts
  pub each : map bytes_of parts ≡ extents_from index.first index.references
  pub tile : Tile index.first (end_from index.first index.references) (map bytes_of parts)
  pub lasting : LastAs index.timescale 0 index.references extents

abbrev pub SegmentsTile : Type 0
SegmentsTile = (url folder : List ℕ) (files : Files) (row : Row) (listed : Listed) → track_parts url folder files row ≡ Ok listed
    → IsIndexed url folder files row listed

-- What an MPD means whose media files have a `sidx`, without any limit, and without bounds on numbers and on the length of URLs:
-- ISO/IEC 23009-1, 5.3.9.2 and ISO/IEC 14496-12, 8.16.3.
use Rattle.std.specs.{Prelude.{ℕ, ◌+◌, List, [], ◌∷◌, map, take, drop, Option, Some, None, option_and_then, option_map}, Result.result_ok}
use Rattle.bridge_io.specs.Outside.{Files}
use Rattle.exact_time.specs.Time.{in_units}
use Rattle.meaning.specs.Meanings.{Entry, Meaning, Segment}
use Rattle.mpd_levels.specs.{declared.indexed.IndexRow.IndexRow, declared.initialization.Initialization.Initialization}
use Rattle.mpd_rules.specs.{Indexes.Index as IndexTold, Rules.index_values, Typed.TypedMpd}
use Rattle.mpd_tree.specs.Meaning.{reading_of}
use Rattle.presentation.specs.Meanings.{Head, address_by, deepest, head_with, meaning_with, part_with}
use Rattle.mpd_presentation.specs.Rows.{in_order}
use Rattle.segment_index.specs.{declared.reference.Reference.Reference, Index.{Index, index_of}}
use Rattle.url_parts.specs.{Addresses.local_name_of, declared.address.Part.Part, declared.range.Range.Range}
use Rattle.index_parts.specs.{Located.part_before, Rows.{Period, Row, told_in}, Segments.part_of}

-- ---- segments

-- each has the size and the duration of its reference, and begins, in bytes and in time, at the end of the one before it
abbrev pub segments_from : (address : List ℕ) (timescale first start : ℕ) → List Reference → List Segment
segments_from address timescale first start [] = []
segments_from address timescale first start (r ∷ rs) =
    record { part = part_of address first r; start = in_units timescale start; end = in_units timescale (start + r.duration) }
    ∷ segments_from address timescale (first + r.size) (start + r.duration) rs

-- from 0 on
abbrev pub segments_of : (address : List ℕ) → Index → List Segment
segments_of address index = segments_from address index.timescale index.first 0 index.references

-- ---- tracks

abbrev pub initialization_by : (address : List ℕ) → Range → Option Initialization → Part
initialization_by address index None = part_before address index
initialization_by address index (Some initialization) = part_with initialization.range (address_by address initialization.reference)

-- the first `sidx` among the boxes of a range of a file
abbrev pub index_among : Range → (bytes : List ℕ) → Option Index
index_among range bytes =
    option_and_then (λ found. found) (result_ok (index_of (record { at = range.first; bytes = take range.count (drop range.first bytes) })))

-- `None` where there is no segment
abbrev pub entry_with : Part → List Segment → Option Entry
entry_with initialization [] = None
entry_with initialization (segment ∷ segments) = Some (record { initialization = initialization; segments = segment ∷ segments })

abbrev pub entry_by : (address : List ℕ) → IndexTold → Index → Option Entry
entry_by address told index = entry_with (initialization_by address told.range told.initialization) (segments_of address index)

-- the content of a Representation, unless its file or the `sidx` is missing
abbrev pub entry_at : (folder : List ℕ) → Files → (address : List ℕ) → IndexTold → Option (Option Entry)
entry_at folder files address told =
    option_map (entry_by address told) (option_and_then (index_among told.range) (option_and_then files (local_name_of folder address)))

unfoldable pub entry_of : (url folder : List ℕ) → Files → Row → Option (Option Entry)
entry_of url folder files row = entry_at folder files (deepest url row.description.bases) (told_in row)

abbrev pub head_of : Row → Head
head_of row = head_with row.description.kind row.description.language

-- ---- the meaning

abbrev pub with_first : {X : Type 0} → Option X → Option (List X) → Option (List X)
with_first (Some x) (Some xs) = Some (x ∷ xs)
with_first (Some x) None = None
with_first None xs = None

-- what each gives, unless one gives `None`
abbrev pub all_of : {X Y : Type 0} → (X → Option Y) → List X → Option (List Y)
all_of give [] = Some []
all_of give (x ∷ xs) = with_first (give x) (all_of give xs)

abbrev pub meaning_over : (url folder : List ℕ) → Files → List Row → Option Meaning
meaning_over url folder files rows =
    option_map (λ entries. meaning_with (map head_of rows) (entries ∷ [])) (all_of (entry_of url folder files) rows)

-- the tracks are the Representations of the one Period, video before audio before text
abbrev pub meaning_by : (url folder : List ℕ) → Files → List Period → Option Meaning
meaning_by url folder files [] = Some (meaning_with [] [])
meaning_by url folder files (period ∷ later) = meaning_over url folder files (in_order period.tracks)

unfoldable pub meaning_of : (url folder : List ℕ) → Files → TypedMpd (Option IndexRow) → Option Meaning
meaning_of url folder files mpd = meaning_by url folder files mpd.periods

-- What the text of an MPD means at its URL, with the files of a store whose folder has the second URL. It has no meaning
-- where it isn't the text of a tree, or a media file or its `sidx` is missing.
unfoldable pub indexed_meaning : (bytes url folder : List ℕ) → Files → Option Meaning
indexed_meaning bytes url folder files =
    option_and_then (λ tree. meaning_of url folder files (index_values tree)) (result_ok (reading_of bytes))

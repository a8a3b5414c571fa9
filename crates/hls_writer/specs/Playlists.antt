-- The lines of media playlists (RFC 8216, 4.3.2 and 4.3.3), VOD and live.
use Rattle.std.specs.Prelude.{ℕ, ◌-◌, nat_lt, Bool, true, List, [], ◌∷◌, ◌++◌, replicate, Option, Some, None, option_map, option_to_list}
use Rattle.std.specs.{Prelude.{if◌then◌else◌, ℤ}, List.flat_map}
use Rattle.url_parts.specs.declared.address.Part.{Part}
use Rattle.hls_writer.specs.Lines.{WrittenLine, header, version, target_duration, media_sequence, discontinuity_sequence, on_demand}
use Rattle.hls_writer.specs.Lines.{discontinuity, initialization, program_date_time, duration, byte_range, uri, end_list, lines_text}

-- a segment as a playlist lists it
pub record Item : Type 0 where
  -- its URL and byte range
  pub part : Part
  -- its init segment
  pub map : Part
  -- its printed duration, in units of which 10 to the playlist's number of digits make a second
  pub duration : ℕ
  pub section : ℕ
  -- when it begins, in nanoseconds since 1970-01-01T00:00:00Z
  pub date : Option ℤ

-- those lines that are present
abbrev pub present : List (Option WrittenLine) → List WrittenLine
present lines = flat_map option_to_list lines

-- by how much the section number rises after a segment of another section; 0 for the first segment
abbrev pub rise : (former : Option ℕ) → ℕ → ℕ
rise None section = 0
rise (Some former) section = section - former

-- whether a segment begins a section of the playlist
abbrev pub begins_section : (former : Option ℕ) → ℕ → Bool
begins_section None section = true
begins_section (Some former) section = nat_lt former section

-- the line of its init segment, where it begins a section
abbrev pub map_line : (former : Option ℕ) → Item → Option WrittenLine
map_line former item = if begins_section former item.section then Some (initialization item.map) else None

-- the lines of a segment after those of the discontinuities
abbrev pub own_lines : (digits : ℕ) (former : Option ℕ) → Item → List WrittenLine
own_lines digits former item = present (
    map_line former item
    ∷ option_map program_date_time item.date
    ∷ Some (duration digits item.duration)
    ∷ option_map byte_range item.part.range
    ∷ Some (uri item.part.address)
    ∷ []
    )

-- the first of them, of what begins with the segment
abbrev pub front_lines : (former : Option ℕ) → Item → List WrittenLine
front_lines former item = present (
    map_line former item
    ∷ option_map program_date_time item.date
    ∷ []
    )

-- and the others, of the segment itself
abbrev pub last_lines : (digits : ℕ) → Item → List WrittenLine
last_lines digits item = duration digits item.duration ∷ option_to_list (option_map byte_range item.part.range) ++ uri item.part.address
    ∷ []

-- the lines of a segment after one of a section
abbrev pub item_lines : (digits : ℕ) (former : Option ℕ) → Item → List WrittenLine
item_lines digits former item = replicate (rise former item.section) discontinuity ++ own_lines digits former item

-- the lines of segments in order
abbrev pub items_lines : (digits : ℕ) (former : Option ℕ) → List Item → List WrittenLine
items_lines digits former [] = []
items_lines digits former (item ∷ items) = item_lines digits former item ++ items_lines digits (Some item.section) items

-- the section of the last of some segments after one of a section
abbrev pub last_section : (former : Option ℕ) → List Item → Option ℕ
last_section former [] = former
last_section former (item ∷ items) = last_section (Some item.section) items

-- the lines before the segments; the last one depends on whether the playlist is VOD or live
abbrev pub head_lines : (target sequence : ℕ) (kind : WrittenLine) → List WrittenLine
head_lines target sequence kind = header ∷ version 6 ∷ target_duration target ∷ media_sequence sequence ∷ kind ∷ []

-- the line after the segments, where the playlist has EXT-X-ENDLIST
abbrev pub end_lines : Bool → List WrittenLine
end_lines ended = if ended then end_list ∷ [] else []

-- a media playlist with a target duration in seconds
abbrev pub media_lines : (target sequence : ℕ) (kind : WrittenLine) (digits : ℕ) → List Item → (ended : Bool) → List WrittenLine
media_lines target sequence kind digits items ended =
    head_lines target sequence kind ++ items_lines digits None items ++ end_lines ended

-- the header values of a live playlist, and whether it has EXT-X-ENDLIST
pub record Head : Type 0 where
  pub target : ℕ
  pub sequence : ℕ
  pub first_section : ℕ
  pub ended : Bool
  pub digits : ℕ

-- the text of a VOD media playlist, whose segments have no dates
unfoldable pub finished_text : (target digits : ℕ) → List Item → List ℕ
finished_text target digits items = lines_text (media_lines target 0 on_demand digits items true)

-- the text of a live media playlist
unfoldable pub followed_text : Head → List Item → List ℕ
followed_text head items =
    lines_text (media_lines head.target head.sequence (discontinuity_sequence head.first_section) head.digits items head.ended)

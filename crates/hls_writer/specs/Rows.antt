-- Lines and segments as they are written.
use Rattle.hls_writer.specs.declared.line.Tag.TheVariants as line
use Rattle.std.specs.Prelude.{⊤, List, map, ◌++◌, Option, option_map, IfSome}
use Rattle.iso_time.specs.Instant.{IsWritable}
use Rattle.hls_writer.specs.Lines.{WrittenLine, header, version, target_duration, media_sequence, discontinuity_sequence, on_demand}
use Rattle.hls_writer.specs.Lines.{independent_segments, discontinuity, initialization, program_date_time, byte_range, end_list}
use Rattle.hls_writer.specs.{Playlists.{Item, present}, Spelled.spelled_part, declared.line.Tag.Tag, declared.entry.Entry.Entry}

-- the value of a line
abbrev pub written : Tag → WrittenLine
written line.Header = header
written (line.Version number) = version number
written line.IndependentSegments = independent_segments
written (line.TargetDuration seconds) = target_duration seconds
written (line.MediaSequence number) = media_sequence number
written (line.DiscontinuitySequence number) = discontinuity_sequence number
written line.OnDemand = on_demand
written line.Discontinuity = discontinuity
written (line.Map address range) = initialization (record { address = address.up.now ++ address.rest.now; range = range })
written (line.ProgramDateTime instant) = program_date_time instant
written (line.ByteRange range) = byte_range range
written line.EndList = end_list

-- the values of those that are present
abbrev pub all_written : List (Option Tag) → List WrittenLine
all_written lines = present (map (option_map written) lines)

-- the segment with its URLs as they are spelled
abbrev pub entry_item : Entry → Item
entry_item entry = record {
  part = record { address = entry.address.up.now ++ entry.address.rest.now; range = entry.range };
  map = spelled_part entry.spelling.now entry.map.now;
  duration = entry.duration;
  section = entry.section;
  date = entry.date;
}

-- the year of a date is 1000 to 9999
abbrev pub CanBeWritten : Tag → Type 0
CanBeWritten (line.ProgramDateTime instant) = IsWritable instant
CanBeWritten line = ⊤

abbrev pub CanBeThere : Option Tag → Type 0
CanBeThere line = IfSome line CanBeWritten

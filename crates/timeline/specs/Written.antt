-- The text that was written last of a URL.
use Rattle.std.specs.Prelude.{◌≡◌, ℕ, List, Option, IfSome, Result, Ok, Err, string_bytes}
use Rattle.url_parts.specs.{declared.address.Part.Part, declared.range.Range.Range, Spelling.{PlaylistPlace, SpellsNames, spelled}}
use Rattle.timeline.specs.{Expansions.SegmentTimeline, FileNames.{AreInFolder, AreNames, file_name, folder_of_names}}
use Rattle.timeline.specs.declared.address_writer.{AddressWriter.TheInside.Inside, SpelledFiles.SpelledFiles}
use Rattle.timeline.specs.{Makers.IsMakerOf, declared.fault.ListFault.ListFault, declared.names.{Files.Files, Names.Names}}
use Rattle.template_ids.specs.Filled.{name_of}

pub record Written : Type 0 where
  pub timeline : SegmentTimeline
  pub place : Option PlaylistPlace
  pub text : List ℕ

abbrev pub written : Inside → Written
written w = record { timeline = w.runs.now; place = w.spelling.now; text = string_bytes w.text }

-- the same names, and a text that spells their folder
pub record AreSpelled (place : Option PlaylistPlace) (files : Files) (spelled : SpelledFiles) : Type 0 where
  pub names : spelled.names ≡ files.names
  pub front : SpellsNames place (string_bytes files.folder) spelled.front

-- the names of all segments, and a text that spells their folder
pub record AreSpelledOf (place : Option PlaylistPlace) (names : Names) (spelled : SpelledFiles) : Type 0 where
  pub names_are : (number time : ℕ) → name_of spelled.names number time ≡ file_name names number time
  pub addressed : AreInFolder names
  pub named : AreNames names
  pub front : SpellsNames place (folder_of_names names) spelled.front

-- the files are those of all names, and the maker's cache is of the names
abbrev pub IsWriter : Inside → Type 0
IsWriter w = IfSome w.files (AreSpelledOf w.spelling.now w.runs.now.names) × IsMakerOf w.runs.now.names w.maker

-- a file with a range
abbrev pub part_with : List ℕ → Option Range → Part
part_with address range = record { address = address; range = range }

-- a part with its URL as a playlist has it
abbrev pub spelled_in : Option PlaylistPlace → Result Part ListFault → Result Part ListFault
spelled_in place (Ok part) = Ok (record part { address = spelled place part.address })
spelled_in place (Err fault) = Err fault

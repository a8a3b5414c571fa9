-- The error codes of the report for media files whose decode times are needed, and the position of an error in one.
use Rattle.box_reader.specs.declared.head.BoxFault.TheVariants as boxes
use Rattle.layer_faults.specs.declared.times.FileFault.TheVariants as file
use Rattle.std.specs.Prelude.{ℕ, List, codes, Option, Some, None}
use Rattle.layer_faults.specs.declared.times.FileFault.{FileFault}
use Rattle.bridge_report.specs.{declared.spot.Spot.Spot, declared.spot.Spot.TheVariants.Byte}
use Rattle.bridge_report.specs.declared.times_refusal.TimesRefusal.{TimesRefusal}
use Rattle.bridge_report.specs.declared.times_refusal.TimesRefusal.TheVariants.{OutsideBase, Range, File}

abbrev pub file_words : FileFault → List ℕ
file_words (file.Boxes (boxes.Cut at)) = codes "times 2 Cut"
file_words (file.Boxes (boxes.Size at)) = codes "times 3 Size"
file_words file.Missing = codes "times 4 Missing"
file_words file.Tracks = codes "times 5 Tracks"
file_words file.Scale = codes "times 6 Scale"
file_words file.Order = codes "times 7 Order"
file_words file.Range = codes "times 8 Range"
file_words file.Absent = codes "times 11 Absent"

abbrev pub times_words : TimesRefusal → List ℕ
times_words OutsideBase = codes "times 1 OutsideBase"
times_words Range = codes "times 8 Range"
times_words (File fault) = file_words fault

-- a box
abbrev pub times_spot : TimesRefusal → Option Spot
times_spot (File (file.Boxes (boxes.Cut at))) = Some (Byte at)
times_spot (File (file.Boxes (boxes.Size at))) = Some (Byte at)
times_spot other = None

-- The error codes of the report for media files with a `sidx`, and the position of an error in one.
use Rattle.box_reader.specs.declared.head.BoxFault.TheVariants as boxes
use Rattle.layer_faults.specs.declared.index.FileFault.TheVariants as file
use Rattle.std.specs.Prelude.{ℕ, List, codes, Option, Some, None}
use Rattle.layer_faults.specs.declared.index.FileFault.{FileFault}
use Rattle.bridge_report.specs.{declared.spot.Spot.Spot, declared.spot.Spot.TheVariants.Byte}
use Rattle.bridge_report.specs.declared.index_refusal.IndexRefusal.{IndexRefusal}
use Rattle.bridge_report.specs.declared.index_refusal.IndexRefusal.TheVariants.{OutsideBase, TooLong, File}

abbrev pub file_words : FileFault → List ℕ
file_words (file.Boxes (boxes.Cut at)) = codes "index 3 Cut"
file_words (file.Boxes (boxes.Size at)) = codes "index 4 Size"
file_words file.NoIndex = codes "index 5 NoIndex"
file_words (file.Nested at) = codes "index 6 Nested"
file_words (file.Scale at) = codes "index 7 Scale"
file_words (file.Empty at) = codes "index 8 Empty"
file_words (file.ZeroSize at) = codes "index 9 ZeroSize"
file_words (file.Range at) = codes "index 10 Range"
file_words file.Absent = codes "index 15 Absent"

abbrev pub index_words : IndexRefusal → List ℕ
index_words OutsideBase = codes "index 1 OutsideBase"
index_words TooLong = codes "index 2 TooLong"
index_words (File fault) = file_words fault

-- a box, or a reference of the `sidx`
abbrev pub file_spot : FileFault → Option Spot
file_spot (file.Boxes (boxes.Cut at)) = Some (Byte at)
file_spot (file.Boxes (boxes.Size at)) = Some (Byte at)
file_spot file.NoIndex = None
file_spot (file.Nested at) = Some (Byte at)
file_spot (file.Scale at) = Some (Byte at)
file_spot (file.Empty at) = Some (Byte at)
file_spot (file.ZeroSize at) = Some (Byte at)
file_spot (file.Range at) = Some (Byte at)
file_spot file.Absent = None

abbrev pub index_spot : IndexRefusal → Option Spot
index_spot OutsideBase = None
index_spot TooLong = None
index_spot (File fault) = file_spot fault

-- Why the times of files are rejected, and which error is reported.
use Rattle.box_reader.specs.declared.head.BoxFault.TheVariants as box
use Rattle.box_reader.specs.declared.part.PartFault.TheVariants as part
use Rattle.std.specs.Prelude.{ℕ, ◌+◌, ◌==◌, ◌&&◌, ◌||◌, nat_lt, nat_le, Bool, List, Option, Some, None, Result, if◌then◌else◌, IsErrOf}
use Rattle.box_reader.specs.declared.part.PartFault.{PartFault}
use Rattle.layer_faults.specs.declared.times.FileFault.{FileFault}
use Rattle.layer_faults.specs.declared.times.FileFault.TheVariants.{Absent, Boxes, Missing, Tracks}
use Rattle.fragment_times.specs.declared.fault.SegmentSpot.{SegmentSpot}
use Rattle.layer_faults.specs.declared.times.FileFault.TheVariants.{Scale, Order, Range}
use Rattle.fragment_times.specs.{declared.fault.TimesFault.TimesFault, declared.fault.TimesFault.TheVariants.{File, Fault, Memory}}

-- an I/O error and out of memory say nothing about the files
abbrev pub refusal : TimesFault → Option TimesFault
refusal Memory = None
refusal Fault = None
refusal fault = Some fault

-- no read failed
abbrev pub IsNoFault : {X : Type 0} → Result X TimesFault → Type 0
IsNoFault result = IsErrOf result Fault → ⊥

-- a fault of the part of a file that is read
abbrev pub part_told : (file : List ℕ) → PartFault → TimesFault
part_told file part.Absent = File file Absent
part_told file part.Fault = Fault
part_told file part.Memory = Memory

-- ---- of several faults of a part the one that is tried first is reported, and of the same kind the one at the least
-- offset

abbrev pub rank : FileFault → ℕ
rank Absent = 0
rank (Boxes (box.Cut at)) = 1
rank (Boxes (box.Size at)) = 2
rank Missing = 3
rank Tracks = 4
rank Scale = 5
rank Order = 6
rank Range = 7

abbrev pub place : FileFault → ℕ
place (Boxes (box.Cut at)) = at
place (Boxes (box.Size at)) = at
place other = 0

abbrev pub is_sooner : FileFault → FileFault → Bool
is_sooner one other = nat_lt (rank one) (rank other) || ((rank one == rank other) && nat_le (place one) (place other))

abbrev pub sooner : FileFault → FileFault → FileFault
sooner one other = if is_sooner one other then one else other

-- the next segment
abbrev pub next_spot : SegmentSpot → SegmentSpot
next_spot spot = record spot { segment = spot.segment + 1 }

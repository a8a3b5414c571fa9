-- The results of the constructors of `Runs`.
use Rattle.std.specs.{Prelude.{ℕ, ◌==◌, Bool, List, not, Option, Some, None, Result, Ok, Err, IsSome}, List.list_any}
use Rattle.timeline.specs.{declared.fault.TimeFault.TimeFault, declared.fault.TimeFault.TheVariants.ListLength, declared.entry.Scale.Scale}
use Rattle.timeline.specs.{declared.entry.End.End, declared.span.Span.Span, declared.names.Names.Names}
use Rattle.timeline.specs.{Expansions.{SegmentTimeline, Member}, Timelines.expansion_of_timeline, Durations.expansion_of_list}
use Rattle.timeline.specs.{Faults.{duration_fault, list_fault, members_by, members_fault, are_paired, ends_open, fault_if}, Names.count_of}
use Rattle.mpd_entries.specs.declared.entry.SEntry.{SEntry}

abbrev pub unless_fault : Option TimeFault → SegmentTimeline → Result SegmentTimeline TimeFault
unless_fault None timeline = Ok timeline
unless_fault (Some fault) timeline = Err fault

abbrev pub timeline_from : Scale → ℕ → Names → List Member → SegmentTimeline
timeline_from scale origin names members =
    record {
      members = members;
      ticks = scale.ticks;
      origin = origin;
      offset = scale.offset;
      first_number = scale.start_number;
      names = names;
    }

-- the segments with their names, unless these are a list of another length
abbrev pub timeline_if_paired : Scale → ℕ → Names → List Member → Result SegmentTimeline TimeFault
timeline_if_paired scale origin names members = unless_fault (fault_if (not (are_paired (count_of names) members)) ListLength)
    (timeline_from scale origin names members)

abbrev pub timeline_of_members : (no_time unended : Bool) → List Member → End → Bool → Scale → Names → Result SegmentTimeline TimeFault
timeline_of_members no_time unended members end live scale names =
    unless_fault (members_fault no_time unended members end live scale names) (timeline_from scale scale.offset names members)

abbrev pub timeline_of_entries : List SEntry → End → Bool → Scale → Names → Result SegmentTimeline TimeFault
timeline_of_entries entries end live scale names = timeline_of_members (list_any (λ s. s.d == 0) entries) (ends_open entries)
    (expansion_of_timeline scale end entries) end live scale names

-- the times of segments by a duration are relative to the Period's start
abbrev pub timeline_of_duration : ℕ → End → Bool → Scale → Names → Result SegmentTimeline TimeFault
timeline_of_duration duration end live scale names = unless_fault (duration_fault duration end live scale names)
    (timeline_from scale 0 names (members_by scale.ticks end duration (count_of names)))

abbrev pub timeline_of_spans : List Span → Scale → Names → Result SegmentTimeline TimeFault
timeline_of_spans spans scale names = unless_fault (list_fault spans names) (timeline_from scale 0 names (expansion_of_list spans))

abbrev pub IsList : Names → Type 0
IsList names = IsSome (count_of names)

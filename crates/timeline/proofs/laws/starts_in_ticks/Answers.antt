use Rattle.timeline.proofs.laws.starts_in_ticks.Goals as goal
use Rattle.std.proofs.{Common.subst, lemmas.List.Elements.recursion_from_All}
use Rattle.timeline.specs.{Faults.members_by, Names.count_of, SegmentTimelines.timeline_from, Durations.expansion_of_list}
use Rattle.timeline.specs.{Starts.StartInTicks, Timelines.expansion_of_timeline}
use Rattle.timeline.proofs.{OpenEnds.no_fault, OwnParts.{durations_begin, entries_begin, listed_start, lists_begin}}

pub returns-clause-timelines : goal.returns-clause-timelines
returns-clause-timelines c entries end live scale names timeline made = subst StartInTicks (no_fault _ _ timeline made).1
    (listed_start (timeline_from scale scale.offset names (expansion_of_timeline scale end entries)) (entries_begin scale end 0 entries))

pub returns-clause-durations : goal.returns-clause-durations
returns-clause-durations c duration end live scale names timeline made = subst StartInTicks (no_fault _ _ timeline made).1
    (listed_start (timeline_from scale 0 names (members_by scale.ticks end duration (count_of names)))
    (durations_begin scale.ticks end duration (count_of names)))

pub returns-clause-lists : goal.returns-clause-lists
returns-clause-lists c spans scale names timeline start made = subst StartInTicks (no_fault _ _ timeline made).1
    (listed_start (timeline_from scale 0 names (expansion_of_list spans))
    (lists_begin scale.ticks spans (recursion_from_All _ spans start)))

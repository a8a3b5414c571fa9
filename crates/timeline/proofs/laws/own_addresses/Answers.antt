use Rattle.timeline.proofs.laws.own_addresses.Goals as goal
use Rattle.std.proofs.Common.{sym, ap, not, ◌&&◌, length}
use Rattle.std.specs.{Prelude.{None, ◌==◌}, List.list_any}
use Rattle.timeline.specs.{declared.fault.TimeFault.TheVariants.{ZeroDuration, NoEnd, ListLength}, Expansions.SegmentTimeline}
use Rattle.timeline.specs.{Faults.{ends_open, fault_if, is_unbounded, segment_fault}, Limits.breaks_limits, Timelines.expansion_of_timeline}
use Rattle.timeline.proofs.{OpenEnds.{no_fault, no_faults, unless}, OwnParts.{are_given_again, are_numbered, have_parts, names_paired}}
use Rattle.timeline.proofs.OwnParts.{paired}

pub returns-clause-numbered : goal.returns-clause-numbered
returns-clause-numbered c = are_numbered

pub returns-clause-timelines : goal.returns-clause-timelines
returns-clause-timelines c entries end live scale parts timeline made =
    let split = no_fault _ _ timeline made in
    let zero = no_faults (fault_if (list_any (λ s. s.d == 0) entries) ZeroDuration) _ split.0 in
    let ended = no_faults (fault_if (not live && is_unbounded end && ends_open entries) NoEnd) _ zero.1 in
    let judged = no_faults (segment_fault (breaks_limits scale.ticks scale.offset) None (expansion_of_timeline scale end entries)) _
    ended.1 in
    have_parts timeline parts (ap (λ (t : SegmentTimeline). t.names) (sym split.1))
    (rw (← split.1) (paired (length parts) _ (unless _ ListLength judged.1)))

pub returns-clause-durations : goal.returns-clause-durations
returns-clause-durations c duration end live scale parts timeline made =
    let split = no_fault _ _ timeline made in
    have_parts timeline parts (ap (λ (t : SegmentTimeline). t.names) (sym split.1))
    (rw (← split.1) (names_paired scale.ticks end duration (length parts)))

pub returns-clause-lists : goal.returns-clause-lists
returns-clause-lists c spans scale parts timeline made =
    let split = no_fault _ _ timeline made in
    let judged = no_faults _ _ (no_faults _ _ split.0).1 in
    have_parts timeline parts (ap (λ (t : SegmentTimeline). t.names) (sym split.1))
    (rw (← split.1) (paired (length parts) _ (unless _ ListLength judged.1)))

pub returns-clause-given_again : goal.returns-clause-given_again
returns-clause-given_again c = are_given_again

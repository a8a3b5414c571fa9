-- Why times give no segments.
use Rattle.std.specs.Prelude.{ℕ, ◌-◌, ◌*◌, ℤ, pos, negsuc, Bool, true, false, not, ◌&&◌, ◌||◌, ◌==◌, nat_lt, List, [], ◌∷◌, length}
use Rattle.std.specs.{Prelude.{unsigned_abs, if◌then◌else◌, Option, Some, None}, List.list_any}
use Rattle.exact_time.specs.Time.{Time, difference, before, at_most, nanoseconds}
use Rattle.timeline.specs.declared.fault.TimeFault.{TimeFault}
use Rattle.timeline.specs.declared.fault.TimeFault.TheVariants.{ZeroDuration, Range, NoEnd, Step, ListLength, TimeWithoutTimeline, Memory}
use Rattle.timeline.specs.{declared.entry.Scale.Scale, declared.entry.End.End, declared.entry.End.TheVariants.{At, Unbounded}}
use Rattle.timeline.specs.{declared.span.Span.Span, declared.names.Names.Names}
use Rattle.timeline.specs.Expansions.{Extent, Member, Closed, Short, Endless, lasting, is_open}
use Rattle.timeline.specs.{Limits.{breaks_limits, span_breaks_limits}, Timelines.expansion_of_timeline}
use Rattle.timeline.specs.Durations.{expansion_of_duration, expansion_of_names, expansion_of_list, extent_at, extent_of}
use Rattle.timeline.specs.Names.{count_of, asks_for_time}
use Rattle.mpd_entries.specs.declared.entry.SEntry.{SEntry}

-- out of memory says nothing about the times
abbrev pub refusal : TimeFault → Option TimeFault
refusal Memory = None
refusal fault = Some fault

abbrev pub fault_if : Bool → TimeFault → Option TimeFault
fault_if holds fault = if holds then Some fault else None

-- the first fault of two
abbrev pub or_fault : Option TimeFault → Option TimeFault → Option TimeFault
or_fault (Some fault) later = Some fault
or_fault None later = later

-- a gap or an overlap of more than half the later segment's duration
abbrev pub is_apart : Option Time → Extent → Bool
is_apart None x = false
is_apart (Some former) x = let gap = difference x.start former in
    before (lasting x) (record { ticks = pos (2 * unsigned_abs gap.ticks); scale = gap.scale })

-- `Range` and `Step` by the first segment concerned, `Range` first. Of the segments that continue to an open end only the
-- first one's start is checked.
abbrev pub segment_fault : (Extent → Bool) → Option Time → List Member → Option TimeFault
segment_fault breaks former [] = None
segment_fault breaks former (Closed x ∷ later) =
    if breaks x then Some Range else (if is_apart former x then Some Step else segment_fault breaks (Some x.end) later)
segment_fault breaks former (Short x ∷ later) = if breaks x then Some Range else Some Step
segment_fault breaks former (Endless x ∷ later) = if is_apart former x then Some Step else segment_fault breaks former later

-- whether there are as many listed names as segments, where names are listed
abbrev pub are_paired : Option ℕ → List Member → Bool
are_paired None members = true
are_paired (Some count) members = not (is_open members) && (length members == count)

abbrev pub is_negative : ℤ → Bool
is_negative (pos r) = false
is_negative (negsuc r) = true

-- whether the last S continues to the Period's end
abbrev pub ends_open : List SEntry → Bool
ends_open [] = false
ends_open (s ∷ []) = is_negative s.r
ends_open (s ∷ next ∷ later) = ends_open (next ∷ later)

abbrev pub is_unbounded : End → Bool
is_unbounded (At length) = false
is_unbounded Unbounded = true

-- the fault of members, by whether some S has duration 0, and whether the last one continues to the Period's end
abbrev pub members_fault : (no_time unended : Bool) → List Member → End → Bool → Scale → Names → Option TimeFault
members_fault no_time unended members end live scale names =
    or_fault (fault_if no_time ZeroDuration)
    (or_fault (fault_if (not live && is_unbounded end && unended) NoEnd)
    (or_fault (segment_fault (breaks_limits scale.ticks scale.offset) None members)
    (fault_if (not (are_paired (count_of names) members)) ListLength)))

abbrev pub timeline_fault : List SEntry → End → Bool → Scale → Names → Option TimeFault
timeline_fault entries end live scale names =
    members_fault (list_any (λ s. s.d == 0) entries) (ends_open entries) (expansion_of_timeline scale end entries) end live scale names

abbrev pub extents_break : (Extent → Bool) → List Member → Bool
extents_break breaks [] = false
extents_break breaks (Closed x ∷ later) = breaks x || extents_break breaks later
extents_break breaks (Short x ∷ later) = extents_break breaks later
extents_break breaks (Endless x ∷ later) = extents_break breaks later

-- whether the last one of a number of segments begins at or after the Period's end
abbrev pub begins_late : ℕ → End → ℕ → ℕ → Bool
begins_late ticks Unbounded duration count = false
begins_late ticks (At length) duration count =
    nat_lt 0 count && at_most (nanoseconds (pos length)) (extent_at ticks duration (count - 1)).start

-- the segments of a duration, by the number of names where they are listed
abbrev pub members_by : ℕ → End → ℕ → Option ℕ → List Member
members_by ticks end duration None = expansion_of_duration ticks end duration
members_by ticks end duration (Some count) = expansion_of_names ticks end duration count

abbrev pub lacks_end : Bool → End → Option ℕ → Bool
lacks_end live end None = not live && is_unbounded end
lacks_end live end (Some count) = false

abbrev pub is_too_many : ℕ → End → ℕ → Option ℕ → Bool
is_too_many ticks end duration None = false
is_too_many ticks end duration (Some count) = begins_late ticks end duration count

abbrev pub duration_fault : ℕ → End → Bool → Scale → Names → Option TimeFault
duration_fault duration end live scale names = let count = count_of names in
    or_fault (fault_if (asks_for_time names) TimeWithoutTimeline)
    (or_fault (fault_if (duration == 0) ZeroDuration)
    (or_fault (fault_if (lacks_end live end count) NoEnd)
    (or_fault (fault_if (extents_break (breaks_limits scale.ticks 0) (members_by scale.ticks end duration count)) Range)
    (fault_if (is_too_many scale.ticks end duration count) ListLength))))

abbrev pub lasts_no_time : Extent → Bool
lasts_no_time x = at_most x.end x.start

abbrev pub list_fault : List Span → Names → Option TimeFault
list_fault spans names = let members = expansion_of_list spans in
    or_fault (fault_if (list_any (λ span. lasts_no_time (extent_of span)) spans) ZeroDuration)
    (or_fault (segment_fault span_breaks_limits None members)
    (fault_if (not (are_paired (count_of names) members)) ListLength))

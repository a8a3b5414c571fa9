-- Segments with given times, while they are checked and collected.
use Rattle.std.specs.Prelude.{◌≡◌, ℕ, ◌+◌, Bool, false, List, ◌++◌, length, IsNone, Option, Some, None, option_map, if◌then◌else◌}
use Rattle.std.specs.List.{list_any}
use Rattle.exact_time.specs.{Tick.time_of, declared.tick.Tick.Tick}
use Rattle.timeline.specs.{declared.fault.TimeFault.TimeFault, declared.fault.TimeFault.TheVariants.{Range, Step}}
use Rattle.timeline.specs.{declared.builder.RunsBuilder.RunsBuilder, declared.span.Span.Span, Durations.{expansion_of_list, extent_of}}
use Rattle.timeline.specs.{Expansions.Member, Faults.{is_apart, lasts_no_time, segment_fault}, Building.{IsLaidOut, members_so_far}}
use Rattle.timeline.specs.Limits.{span_breaks_limits}

abbrev pub have_no_time : List Span → Bool
have_no_time spans = list_any (λ span. lasts_no_time (extent_of span)) spans

-- the fault of one segment, given the end of the one before it
abbrev pub fault_of_span : Option Tick → Span → Option TimeFault
fault_of_span former span =
    if span_breaks_limits (extent_of span) then Some Range else (if is_apart (option_map time_of former) (extent_of span) then Some Step
    else None)

-- some segments were collected, and the others are checked from the last end on
pub record IsRowSoFar (ticks : ℕ) (spans : List Span) (l : RunsBuilder) (former : Option Tick) (rest : List Span) : Type 0 where
  pub scale : l.limits.ticks ≡ ticks
  pub origin : l.limits.origin ≡ 0
  pub laid : IsLaidOut l
  pub closed : IsNone l.endless
  pub number : l.total + length rest ≡ length spans
  pub lasting : have_no_time rest ≡ false
  pub members : expansion_of_list spans ≡ members_so_far l ++ expansion_of_list rest
  pub judged : segment_fault span_breaks_limits None (expansion_of_list spans)
      ≡ segment_fault span_breaks_limits (option_map time_of former) (expansion_of_list rest)

-- the members were collected, and have no fault
pub record AreInRow (ticks : ℕ) (members : List Member) (l : RunsBuilder) : Type 0 where
  pub scale : l.limits.ticks ≡ ticks
  pub origin : l.limits.origin ≡ 0
  pub laid : IsLaidOut l
  pub members_are : members_so_far l ≡ members
  pub judged : segment_fault span_breaks_limits None members ≡ None

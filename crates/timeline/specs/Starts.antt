-- Segments begin at whole ticks of their timeline.
use Rattle.std.specs.Prelude.{◌≡◌, ℕ, Bool, List, All, Ok}
use Rattle.timeline.specs.{declared.entry.Scale.Scale, declared.entry.End.End, declared.names.Names.Names, declared.span.Span.Span}
use Rattle.timeline.specs.{declared.window.Window.Window, Expansions.SegmentTimeline, Listed.listed_from}
use Rattle.timeline.specs.SegmentTimelines.{timeline_of_entries, timeline_of_duration, timeline_of_spans}
use Rattle.mpd_entries.specs.declared.entry.SEntry.{SEntry}

-- each listed start is in the timeline's ticks
abbrev pub StartInTicks : SegmentTimeline → Type 0
StartInTicks timeline = (place : ℕ) (window : Window) → All (λ x. x.start.scale ≡ timeline.ticks) (listed_from place timeline window)

abbrev pub TimelinesInTicks : Type 0
TimelinesInTicks = (entries : List SEntry) (end : End) (live : Bool) (scale : Scale) (names : Names) (timeline : SegmentTimeline) →
    timeline_of_entries entries end live scale names ≡ Ok timeline → StartInTicks timeline

abbrev pub DurationsInTicks : Type 0
DurationsInTicks = (duration : ℕ) (end : End) (live : Bool) (scale : Scale) (names : Names) (timeline : SegmentTimeline) →
    timeline_of_duration duration end live scale names ≡ Ok timeline → StartInTicks timeline

-- where the given times are
abbrev pub ListsInTicks : Type 0
ListsInTicks = (spans : List Span) (scale : Scale) (names : Names) (timeline : SegmentTimeline) →
    All (λ span. span.start.scale ≡ scale.ticks) spans → timeline_of_spans spans scale names ≡ Ok timeline → StartInTicks timeline

-- When segments continue to an end that isn't known yet, and how many of them there are at a time.
use Rattle.std.specs.Prelude.{◌≡◌, ◌↔◌, ℕ, ◌<◌, Bool, false, ◌&&◌, List, slice_get, IfSome, is_none, Ok}
use Rattle.exact_time.specs.Time.{Time, IsTime, IsAtMost}
use Rattle.timeline.specs.{declared.entry.Scale.Scale, declared.entry.End.End, declared.names.Names.Names, declared.span.Span.Span}
use Rattle.timeline.specs.{declared.window.Window.Window, Expansions.{Extent, SegmentTimeline, ended_by, is_open, repeated}}
use Rattle.timeline.specs.{Faults.is_unbounded, Listed.{IsReached, IsWindowOf, expansion}, Names.count_of}
use Rattle.timeline.specs.{SegmentTimelines.{timeline_of_entries, timeline_of_duration, timeline_of_spans}, Steady.LastsTicks}
use Rattle.mpd_entries.specs.declared.entry.SEntry.{SEntry}

-- only segments of a template in a dynamic MPD may continue to an open end
abbrev pub may_be_open : Bool → End → Names → Bool
may_be_open live end names = live && is_unbounded end && is_none (count_of names)

abbrev pub TimelinesEnd : Type 0
TimelinesEnd = (entries : List SEntry) (end : End) (live : Bool) (scale : Scale) (names : Names) (timeline : SegmentTimeline) →
    timeline_of_entries entries end live scale names ≡ Ok timeline → may_be_open live end names ≡ false → is_open timeline.members ≡ false

abbrev pub DurationsEnd : Type 0
DurationsEnd = (duration : ℕ) (end : End) (live : Bool) (scale : Scale) (names : Names) (timeline : SegmentTimeline) →
    timeline_of_duration duration end live scale names ≡ Ok timeline → may_be_open live end names ≡ false → is_open timeline.members ≡ false

abbrev pub ListsEnd : Type 0
ListsEnd = (spans : List Span) (scale : Scale) (names : Names) (timeline : SegmentTimeline)
    → timeline_of_spans spans scale names ≡ Ok timeline → is_open timeline.members ≡ false

-- what has an end needs no `until`, and `count` never returns `Range`
abbrev pub EndedIsReached : Type 0
EndedIsReached = (timeline : SegmentTimeline) (window : Window) → is_open timeline.members ≡ false
    → IsWindowOf timeline window × IsReached timeline window

-- only a window's `until` determines whether it is valid, whether `count` returns `Range`, and how far an open end
-- continues
abbrev pub UntilTells : Type 0
UntilTells = (timeline : SegmentTimeline) (window other : Window) → window.until ≡ other.until →
    (IsWindowOf timeline window ↔ IsWindowOf timeline other) × (IsReached timeline window ↔ IsReached timeline other) ×
    (expansion timeline window ≡ expansion timeline other)

-- Of segments that follow one another, the first `ended_by` are those that end by a time: it is the greatest number of
-- steps of which the last one ends by then.
abbrev pub StepsAreGreatest : Type 0
StepsAreGreatest = (instant : Time) (x : Extent) (n k : ℕ) → IsTime instant → LastsTicks x → k < n →
    IfSome (slice_get (repeated n x) k) (λ y. IsAtMost y.end instant ↔ (k < ended_by instant x))

-- Each segment ends after the one before it.
use Rattle.std.specs.{Prelude.{◌≡◌, ℕ, ◌<◌, ◌==◌, false, List, map, Option, None}, List.list_any}
use Rattle.exact_time.specs.Time.{Time, AreRising}
use Rattle.timeline.specs.{declared.entry.Scale.Scale, declared.entry.End.End, declared.span.Span.Span, Expansions.{Member, extents}}
use Rattle.timeline.specs.{Timelines.expansion_of_timeline, Durations.{expansion_of_list, extent_of}}
use Rattle.timeline.specs.Faults.{segment_fault, lasts_no_time, members_by, is_too_many}
use Rattle.mpd_entries.specs.declared.entry.SEntry.{SEntry}

abbrev pub EndsRise : List Member → Type 0
EndsRise members = (instant : Time) → AreRising (map (λ x. x.end) (extents instant members))

-- no segment is apart from the one before it, and no time that segments continue to is at or before their start
abbrev pub HasNoStep : List Member → Type 0
HasNoStep members = segment_fault (λ _. false) None members ≡ None

abbrev pub TimelinesRise : Type 0
TimelinesRise = (scale : Scale) (end : End) (entries : List SEntry) → list_any (λ s. s.d == 0) entries ≡ false →
    HasNoStep (expansion_of_timeline scale end entries) → EndsRise (expansion_of_timeline scale end entries)

abbrev pub DurationsRise : Type 0
DurationsRise = (ticks duration : ℕ) (end : End) (names : Option ℕ) → 0 < ticks → 0 < duration →
    is_too_many ticks end duration names ≡ false → EndsRise (members_by ticks end duration names)

abbrev pub ListsRise : Type 0
ListsRise = (spans : List Span) → list_any (λ span. lasts_no_time (extent_of span)) spans ≡ false →
    HasNoStep (expansion_of_list spans) → EndsRise (expansion_of_list spans)

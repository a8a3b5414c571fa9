-- Which kept segments are still available.
use Rattle.std.specs.Prelude.{Bool, List}
use Rattle.exact_time.specs.Tick.{time_of}
use Rattle.timeline.specs.Listed.{is_after}
use Rattle.presentation.specs.Presented.{Presented, window_from}
use Rattle.live_meaning.specs.Segments.{Kept}
use Rattle.live_judge.specs.{declared.track.Fact.Fact, declared.track.LiveTrack.LiveTrack, Shown.kepts_of}

abbrev pub kept_in : LiveTrack → List Kept
kept_in track = kepts_of track.items.items track.facts.items

abbrev pub is_still_available : Presented → Fact → Bool
is_still_available p fact = is_after (window_from p fact.period_start).after (time_of fact.span.end)

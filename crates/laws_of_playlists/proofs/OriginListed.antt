-- The listed segments of an MPD.
use Rattle.std.proofs.{Common.{Option, None, Some, IfSome, [], arith}, lemmas.Option.IfSome_then}
use Rattle.std.specs.Option.{option_map_or}
use Rattle.mpd_presentation.proofs.Pace.{in_pace}
use Rattle.presentation.specs.{declared.parts.Content.Content, Presented.{IsEnded, content_at, listed_in, window_of}}
use Rattle.mpd_presentation.specs.PresentedLaws.{IsInPace}
use Rattle.timeline.specs.{declared.window.Window.Window, Listed.IsReached, OpenEnds.{DurationsEnd, EndedIsReached, TimelinesEnd}}
use Rattle.laws_of_playlists.specs.Origins.{AreInPace, StaticAreInPace, of_static}
use Rattle.laws_of_playlists.proofs.OriginParts.{IsContentWell, at_place, contents_ended, contents_well}

pub by_content : (window : Window) (o : Option Content) → IfSome o IsContentWell → IfSome o (λ content. IsReached content.runs window)
    → IsInPace (option_map_or (λ content. listed_in window content.runs) o [])
by_content window None well reached = (omega arith, tt)
by_content window (Some content) well reached = in_pace content.runs window well reached

pub are_in_pace : AreInPace
are_in_pace p s t from counted = by_content (window_of p s) (content_at p s t)
    (at_place IsContentWell p.contents _ (contents_well p from)) counted

-- what has an end is counted at any instant
pub static_are_in_pace : TimelinesEnd → DurationsEnd → EndedIsReached → AreInPace → StaticAreInPace
static_are_in_pace timelines durations ended paced p s t from =
    let closed = at_place IsEnded p.contents _ (contents_ended timelines durations p from) in
    paced p s t (of_static p from) (IfSome_then (content_at p s t) closed (λ content end. (ended content.runs (window_of p s) end).1))

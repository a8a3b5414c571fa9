-- What holds for each presentation of an MPD, static or dynamic.
use Rattle.std.specs.Prelude.{◌≡◌, ℕ, ◌≤◌, ℤ, List, length, map, Option, Ok}
use Rattle.exact_time.specs.Time.{IsTime}
use Rattle.timeline.specs.{Expansions.Timing, Steady.ArePaced}
use Rattle.mpd_levels.specs.Segments.{Segments}
use Rattle.mpd_rules.specs.Typed.{TypedMpd}
use Rattle.presentation.specs.{Presented.{Presented, listed_at, looked_at}, Printing.{IsCounted, begin_of}}
use Rattle.mpd_presentation.specs.{Rows.section_of, Told.{following_of, presented_of}}

-- at most 1,000 sections, and 200 tracks
abbrev pub PresentedAreFew : Type 0
PresentedAreFew = (mpd : TypedMpd (Option Segments)) (url : List ℕ) (now : Option ℤ) (p : Presented) → presented_of mpd url now ≡ Ok p
    → (length p.sections ≤ 1000) × (length p.tracks ≤ 200)

-- it is followed where the MPD is dynamic, with the given time
abbrev pub PresentedAreFollowed : Type 0
PresentedAreFollowed = (mpd : TypedMpd (Option Segments)) (url : List ℕ) (now : Option ℤ) (p : Presented) → presented_of mpd url now ≡ Ok p
    → p.following ≡ following_of mpd.facts now

-- its sections are the MPD's Periods
abbrev pub SectionsArePeriods : Type 0
SectionsArePeriods = (mpd : TypedMpd (Option Segments)) (url : List ℕ) (now : Option ℤ) (p : Presented) → presented_of mpd url now ≡ Ok p
    → p.sections ≡ map section_of mpd.periods

-- from the first segment's start on the ends don't fall, and are near one another
abbrev pub IsInPace : List Timing → Type 0
IsInPace xs = IsTime (begin_of xs) × ArePaced xs

-- this holds for the listed segments of a track in a section, where counting them succeeds
abbrev pub PresentedAreInPace : Type 0
PresentedAreInPace = (mpd : TypedMpd (Option Segments)) (url : List ℕ) (now : Option ℤ) (p : Presented) → presented_of mpd url now ≡ Ok p
    → (s t : ℕ) → IsCounted p s t → IsInPace (listed_at p s t)

-- and at each other time
abbrev pub AreAlwaysInPace : Type 0
AreAlwaysInPace = (mpd : TypedMpd (Option Segments)) (url : List ℕ) (now : Option ℤ) (p : Presented) → presented_of mpd url now ≡ Ok p
    → (instant : ℤ) (s t : ℕ) → IsCounted (looked_at instant p) s t → IsInPace (listed_at (looked_at instant p) s t)

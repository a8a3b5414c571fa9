-- What holds for the state after a first MPD.
use Rattle.std.specs.Prelude.{◌≡◌, ℤ, Some, Ok}
use Rattle.mpd_rules.specs.Laws.{HaveIdsOnce}
use Rattle.live_meaning.specs.{Updates.{Terms, Values}, Known.ids_of, States.State, Refusals.{begun_of, ids_in}}
use Rattle.live_judge.specs.{Known.StandsAt, Sound.IsSound}

-- it is sound
abbrev pub FirstStatesAreSound : Type 0
FirstStatesAreSound = (terms : Terms) (mpd : Values) (now : ℤ) (s : State) → HaveIdsOnce mpd.facts.live mpd.periods
    → begun_of terms mpd now ≡ Ok s → IsSound s

-- its Periods are all that are known
abbrev pub FirstPeriodsStand : Type 0
FirstPeriodsStand = (terms : Terms) (mpd : Values) (now : ℤ) (s : State) → HaveIdsOnce mpd.facts.live mpd.periods
    → begun_of terms mpd now ≡ Ok s → StandsAt (ids_of s.common.known) (ids_in s.common.force) 0

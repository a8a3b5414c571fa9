-- What stays true of a state when an update is accepted.
use Rattle.std.specs.Prelude.{◌≡◌, ℕ, ◌*◌, ◌<◌, ◌≤◌, All, length, Ok}
use Rattle.live_meaning.specs.{Updates.{Update, mpd_of}, Known.ids_of, Histories.Common, States.{State, Track}, Refusals.{ids_in, next_of}}
use Rattle.live_judge.specs.{Changed.IsPlaceBy, Known.StandsAt, Sound.IsSound}

-- it stays sound
abbrev pub SoundStatesGoOn : Type 0
SoundStatesGoOn = (s : State) (u : Update) (after : State) → IsSound s → next_of s u ≡ Ok after → IsSound after

-- the Periods in force are at the index that is found for them
abbrev pub PeriodsStandOn : Type 0
PeriodsStandOn = (s : State) (u : Update) (after : State) (former place : ℕ)
    → StandsAt (ids_of s.common.known) (ids_in s.common.force) former
    → IsPlaceBy (mpd_of u) s.common former after.common.force place → next_of s u ≡ Ok after
    → StandsAt (ids_of after.common.known) (ids_in after.common.force) place

-- each accepted update brings at most one reset, and 1,000 Periods
pub record NumbersFit (c : Common) : Type 0 where
  pub resets : c.resets ≤ c.accepted
  pub periods : length c.known ≤ 1000 * c.accepted

abbrev pub NumbersGoOn : Type 0
NumbersGoOn = (s : State) (u : Update) (after : State) → IsSound s → NumbersFit s.common → next_of s u ≡ Ok after → NumbersFit after.common

-- at least one segment is kept, and at most 20,000
pub record IsKept (track : Track) : Type 0 where
  pub some : 0 < length track.kept
  pub few : length track.kept ≤ 20000

abbrev pub KeptGoOn : Type 0
KeptGoOn = (s : State) (u : Update) (after : State) → 0 < s.common.target → All IsKept s.tracks → next_of s u ≡ Ok after
    → All IsKept after.tracks

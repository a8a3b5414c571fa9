-- The invariant of a session, and what its calls ensure.
use Rattle.live_judge.specs.declared.fault.RefreshFault.TheVariants as fault
use Rattle.std.specs.Prelude.{◌≡◌, ℕ, ◌+◌, ◌≤◌, ℤ, All, List, [], ◌∷◌, ◌++◌, length, IfSome, MatchResult, None, Some, Option, Result}
use Rattle.std.specs.{Prelude.{Ok, Err}, Option.option_map_or}
use Rattle.iso_time.specs.Instant.{IsReadable}
use Rattle.url_parts.specs.Spelling.{PlaylistPlace}
use Rattle.presentation.specs.{declared.fault.PresentationFault.TheVariants.Url, Counting.{count_of_all, counted}}
use Rattle.live_meaning.specs.{Updates.{Refresh, Terms, Tick, Update, Values}, Known.ids_of, Histories.availability_start_of, States.State}
use Rattle.live_meaning.specs.{Refusals.{ids_in, update_refusal}, Playlists.{live_text, playlist_of}, Laws.Shows}
use Rattle.live_judge.specs.{declared.fault.RefreshFault.RefreshFault, declared.standing.Standing.Standing}
use Rattle.live_judge.specs.{declared.track.LiveTrack.LiveTrack, Faults.told, Known.StandsAt, Shown.{in_force, state_shown}, Sound.IsSound}
use Rattle.live_judge.specs.SoundGoesOn.{IsKept, NumbersFit}
use Rattle.live_session.specs.{Kept.AreSideBySide, Written.AreDated}

-- It is the state after accepted updates of typed MPDs. It has at most 200 tracks, and the dates of their kept segments can
-- be written.
pub record IsReached (s : State) : Type 0 where
  pub terms : Terms
  pub history : List Update
  pub shows : Shows terms history s
  pub sound : IsSound s
  pub numbers : NumbersFit s.common
  pub few : length s.common.opened.tracks ≤ 200
  pub kept : All IsKept s.tracks
  pub dated : All AreDated s.tracks

pub record IsSession (s : Standing) (tracks : List LiveTrack) : Type 0 where
  pub reached : IsReached (state_shown s tracks)
  pub paired : All AreSideBySide tracks
  pub stands : StandsAt (ids_of s.known) (ids_in (in_force s)) s.place
  pub starts : s.availability_start ≡ availability_start_of s.opened
  pub accepted : s.accepted ≤ 10000000
  pub readable : IsReadable s.availability_start
  pub counted_first : counted s.opened ≡ Ok (count_of_all s.opened)
  pub target : 1 ≤ s.target

-- ---- what is made

-- An accepted update makes as many segments as it appends; one that is rejected for a URL, or for which memory runs out, at most as
-- many as it was to append; and one that is rejected otherwise makes none.
abbrev pub CountsRefused : (n before after : ℕ) → RefreshFault → Type 0
CountsRefused n before after fault.Memory = (before ≤ after) × (after ≤ before + n)
CountsRefused n before after (fault.Presentation (Url f spot)) = (before ≤ after) × (after ≤ before + n)
CountsRefused n before after f = after ≡ before

abbrev pub Counts : {X : Type 0} → (n before after : ℕ) → Result X RefreshFault → Type 0
Counts n before after (Ok x) = after ≡ before + n
Counts n before after (Err f) = CountsRefused n before after f

-- ---- updates

-- a new version of the MPD at a time, or only the time
abbrev pub refresh_by : Option Values → (now : ℤ) → Update
refresh_by None now = Tick now
refresh_by (Some mpd) now = Refresh mpd now

-- the state is that of the history with the update, or the update is rejected
abbrev pub Goes : {X : Type 0} → Terms → (history : List Update) → Update → Result X RefreshFault → State → Type 0
Goes terms history u result after =
    MatchResult result (λ _. Shows terms (history ++ u ∷ []) after)
    (λ f. IfSome (told f) (λ refusal. update_refusal terms history u ≡ Some refusal))

-- ---- texts

-- the text of a track's playlist at a place
abbrev pub text_of : Option PlaylistPlace → State → (track : ℕ) → List ℕ
text_of place s t = option_map_or (live_text place) (playlist_of s t) []

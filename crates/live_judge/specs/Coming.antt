-- An update of a session, and its result.
use Rattle.live_judge.specs.declared.coming.Coming.TheVariants as comes
use Rattle.std.specs.Prelude.{◌≡◌, ℕ, ◌<◌, ◌≤◌, ℤ, int_lt, Bool, false, true, List, [], ◌++◌, length, map, slice_get, Option, Some, Ok}
use Rattle.std.specs.Prelude.{unwrap_or}
use Rattle.mpd_rules.specs.Views.{segments_mpd}
use Rattle.presentation.specs.{Presented.{Presented, is_finished, looked_at}, Counting.range_faults, Printing.IsCounted}
use Rattle.mpd_presentation.specs.Told.{presented_of}
use Rattle.live_meaning.specs.{Updates.{Update, Values, Refresh, Reset, Tick, is_reset, mpd_of}, Known.ids_of}
use Rattle.live_meaning.specs.{Histories.{Common, availability_start_of, common_with}, States.{State, Track}}
use Rattle.live_meaning.specs.Refusals.{Presentation, Refusal, counts_kept, ids_in, joint_told, long_told, mpd_told, window_told}
use Rattle.live_judge.specs.{declared.coming.Coming.Coming, declared.coming.Next.Next, declared.standing.Standing.Standing}
use Rattle.live_judge.specs.{declared.track_next.TrackNext.TrackNext, Changed.listed_told, Known.StandsAt}
use Rattle.live_judge.specs.{Shown.{common_shown, in_force, track_shown}, declared.track.LiveTrack.LiveTrack, New.new_timings}
use Rattle.live_judge.specs.Sound.{IsLive, StartsAt}

abbrev pub update_of : Coming → ℤ → Update
update_of (comes.Refresh mpd) now = Refresh (segments_mpd mpd.now) now
update_of (comes.Reset mpd) now = Reset (segments_mpd mpd.now) now
update_of comes.Tick now = Tick now

-- the origin of the presentation that would be in force: the MPD, or it is in force already
abbrev pub Comes : Standing → Coming → Presented → ℤ → Type 0
Comes s (comes.Refresh mpd) force now = presented_of (segments_mpd mpd.now) s.base (Some now) ≡ Ok force
Comes s (comes.Reset mpd) force now = presented_of (segments_mpd mpd.now) s.base (Some now) ≡ Ok force
Comes s comes.Tick force now = force ≡ unwrap_or s.newest s.opened

-- the errors of what an update lists, by open ends and by its MPD, except kept segments
abbrev pub ended_and_listed_told : Common → Option Values → Presented → List Refusal
ended_and_listed_told c mpd p = map Presentation (range_faults p) ++ listed_told c mpd p

-- the errors by the segments' times
abbrev pub timed_told : (is_reset : Bool) → Common → List Track → List Refusal
timed_told is_reset c tracks = joint_told is_reset c tracks ++ long_told c 0 tracks ++ window_told (counts_kept c 0 tracks)

-- the errors before those of URLs
abbrev pub told_before : State → Update → Presented → List Refusal
told_before s u p = map Presentation (range_faults p) ++ mpd_told s (mpd_of u) p ++ timed_told (is_reset u)
    (common_with s.common u p) s.tracks

-- ---- an update with its presentation

abbrev pub p_of : Next → Presented
p_of n = looked_at n.now n.force.now

abbrev pub coming_of : Next → Common
coming_of n = common_with (common_shown n.standing.now) (update_of n.coming n.now) (p_of n)

-- a track has no new segments in any section
abbrev pub IsQuietIn : Presented → (place t : ℕ) → Track → Type 0
IsQuietIn p place t track = (s : ℕ) → s < length p.sections → new_timings p place track t s ≡ []

-- no track has new segments
abbrev pub IsQuiet : Next → Type 0
IsQuiet n = (t : ℕ) (track : LiveTrack) → slice_get n.tracks.now t ≡ Some track → IsQuietIn (p_of n) n.place t (track_shown track)

-- No static MPD came before it, it doesn't go back in time, its open ends break no limit, and its Periods continue the known ones.
-- Where `is_quiet` is set, it is quiet.
pub record IsNext (n : Next) : Type 0 where
  pub live : IsLive n.standing.now n.tracks.now
  pub unended : is_finished (in_force n.standing.now) ≡ false
  pub forward : int_lt n.now (n.standing.now).instant ≡ false
  pub counted : (s t : ℕ) → s < length (p_of n).sections → t < length (p_of n).tracks → IsCounted (p_of n) s t
  pub alike : length (p_of n).tracks ≡ length n.tracks.now
  pub few : length (p_of n).sections ≤ 1000
  pub within : n.place ≤ length (n.standing.now).known
  pub stands : StandsAt (ids_of (coming_of n).known) (ids_in (p_of n)) n.place
  pub follows : StartsAt (availability_start_of (n.standing.now).opened) (p_of n)
  pub quiet : n.is_quiet ≡ true → IsQuiet n

-- ---- one track of it

abbrev pub c_of : TrackNext → Common
c_of l = coming_of l.next.now

abbrev pub t_of : TrackNext → Track
t_of l = track_shown l.track.now

pub record IsTrackNext (l : TrackNext) : Type 0 where
  pub next : IsNext l.next.now
  pub there : slice_get (l.next.now).tracks.now l.index ≡ Some l.track.now

-- there is no gap or overlap after a last segment
abbrev pub IsJoined : Next → Type 0
IsJoined n = joint_told (is_reset (update_of n.coming n.now)) (coming_of n) (map track_shown n.tracks.now) ≡ []

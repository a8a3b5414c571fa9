-- Beginning a session with a first MPD.
use Rattle.std.specs.Prelude.{◌≡◌, ℕ, ◌+◌, ◌<◌, ◌≤◌, ℤ, pos, not, All, List, [], ◌∷◌, ◌++◌, length, map, replicate, unwrap_or, Some, Ok}
use Rattle.std.specs.Prelude.{Err, IfSome}
use Rattle.iso_time.specs.Instant.{IsReadable}
use Rattle.mpd_rules.specs.Laws.{HaveIdsOnce}
use Rattle.presentation.specs.{Counting.count_faults, Presented.{Presented, looked_at}}
use Rattle.mpd_presentation.specs.Told.{presented_of}
use Rattle.live_meaning.specs.{Updates.{Refresh, Terms, Values}, Segments.{id_at, place_of}, Known.{ids_of, known_with}}
use Rattle.live_meaning.specs.{Histories.{Common, availability_start_of, begun_common}, States.{State, Track, new_count}}
use Rattle.live_meaning.specs.Refusals.{NotDynamic, Presentation, Refusal, begun_of, counts_listed, first_appended_by, ids_in, told_if}
use Rattle.live_meaning.specs.{Refusals.{urls_told, window_told}, Laws.Shows}
use Rattle.live_judge.specs.{declared.fault.RefreshFault.RefreshFault, declared.standing.Standing.Standing}
use Rattle.live_judge.specs.{declared.track.LiveTrack.LiveTrack, Faults.told, Known.StandsAt, Shown.{common_shown, track_shown}}
use Rattle.live_session.specs.{Growth.tracks_grown, Kept.{AreSideBySide, empty_track}, Sessions.CountsRefused, Written.AreDated}

-- why it is rejected, except for the URLs of segments
abbrev pub first_judged : Values → Presented → List Refusal
first_judged mpd p = map Presentation (count_faults p) ++ told_if (not mpd.facts.live) NotDynamic ++ window_told (counts_listed p)

-- tracks without listed segments
abbrev pub empty_tracks : Presented → List Track
empty_tracks p = replicate (length p.tracks) empty_track

-- the state after a first MPD without the tracks, where it has this presentation at a time
pub record IsFirst (c : Common) (p : Presented) (now : ℤ) (digits : ℕ) (start : ℤ) : Type 0 where
  pub force : looked_at now p ≡ c.force
  pub printed : digits ≡ c.terms.digits
  pub resets : 0 ≡ c.resets
  pub starts : start ≡ availability_start_of c.opened
  pub places : (s : ℕ) → s < length c.force.sections → place_of (ids_of c.known) (id_at c.force s) ≡ 0 + s

-- tracks have all that is listed, and each segment has a URL
pub record AreFirst (c : Common) (tracks : List LiveTrack) (before after : ℕ) : Type 0 where
  pub shown : map track_shown tracks ≡ tracks_grown c 0 (empty_tracks c.force)
  pub paired : All AreSideBySide tracks
  pub dated : All AreDated (map track_shown tracks)
  pub urls : urls_told c c.force 0 (empty_tracks c.force) ≡ []
  pub counted : after ≡ before + new_count c 0 (empty_tracks c.force)

-- the state without the tracks
pub record IsFirstStanding (terms : Terms) (mpd : Values) (now : ℤ) (p : Presented) (s : Standing) : Type 0 where
  pub common : common_shown s ≡ begun_common terms mpd now p
  pub place : s.place ≡ 0
  pub start : s.availability_start ≡ unwrap_or mpd.facts.availability_start (pos 0)
  pub readable : IsReadable s.availability_start
  pub target : 1 ≤ s.target

-- ---- a session

-- it is valid except for URLs
pub record IsFirstMpd (terms : Terms) (mpd : Values) (now : ℤ) (p : Presented) : Type 0 where
  pub made : presented_of mpd terms.url (Some now) ≡ Ok p
  pub judged : first_judged mpd p ≡ []
  pub once : HaveIdsOnce mpd.facts.live mpd.periods
  pub counts : count_faults p ≡ []
  pub looked : looked_at now p ≡ p
  pub start : unwrap_or mpd.facts.availability_start (pos 0) ≡ availability_start_of p
  pub stands : StandsAt (ids_of (known_with [] p)) (ids_in p) 0
  pub few : (length p.sections ≤ 1000) × (length p.tracks ≤ 200)

-- it begins a session
pub record IsBegunBy (terms : Terms) (mpd : Values) (now : ℤ) (session : State) (before after : ℕ) : Type 0 where
  pub next : begun_of terms mpd now ≡ Ok session
  pub history : Shows terms (Refresh mpd now ∷ []) session
  pub counted : after ≡ before + first_appended_by terms mpd now

-- or why it begins none
pub record IsUnbegun (terms : Terms) (mpd : Values) (now : ℤ) (fault : RefreshFault) (before after : ℕ) : Type 0 where
  pub refused : IfSome (told fault) (λ refusal. begun_of terms mpd now ≡ Err refusal)
  pub counted : CountsRefused (first_appended_by terms mpd now) before after fault

-- What an update changes apart from the tracks, and what it is planned to add to them.
use Rattle.std.specs.Prelude.{◌≡◌, ℕ, ◌+◌, ◌-◌, ◌<◌, ◌≤◌, ◌^◌, ◌⊎◌, ℤ, pos, All, List, [], ◌++◌, length, map, sum, IfSome, Option}
use Rattle.std.specs.{Prelude.{None, Some, Ok, Err, unwrap_or, if◌then◌else◌}, List.range_with_len}
use Rattle.presentation.specs.{declared.fault.PresentationFault.PresentationFault, Presented.{Presented, looked_at}}
use Rattle.live_meaning.specs.{Updates.{Update, is_reset, mpd_of}, Known.{ids_of, known_at}, States.{State, Track, new_count}}
use Rattle.live_meaning.specs.{Histories.{Common, common_with, force_by, published_by}, Refusals.{Presentation, Refusal, appended_by}}
use Rattle.live_meaning.specs.Refusals.{ids_in, next_of, refusal_of}
use Rattle.live_judge.specs.{declared.coming.Coming.Coming, declared.coming.Next.Next, declared.fault.RefreshFault.RefreshFault}
use Rattle.live_judge.specs.{declared.fault.RefreshFault.TheVariants.Memory, declared.standing.Standing.Standing}
use Rattle.live_judge.specs.{declared.track.LiveTrack.LiveTrack, Coming.{Comes, coming_of, update_of}, Faults.told, Known.StandsAt}
use Rattle.live_judge.specs.{Known.known_shown, Shown.{common_shown, in_force, state_shown, track_shown}}
use Rattle.live_session.specs.{declared.change.Change.Change, declared.change.Plan.Plan, declared.made.MadeTrack.MadeTrack}
use Rattle.live_session.specs.{Growth.{HaveRoom, IsTrimmable, grown}, Kept.AreSideBySide, Making.{AreMade, AreUnmade, all_kept}}
use Rattle.live_session.specs.Sessions.{CountsRefused}

-- ---- apart from the tracks

abbrev pub newest_with : (coming former : Option Presented) → Option Presented
newest_with None former = former
newest_with (Some p) former = Some p

abbrev pub changed : Standing → (newest : Option Presented) → Change → Standing
changed s newest change = record s {
  newest = newest_with newest s.newest;
  published = change.published;
  place = change.place;
  instant = change.instant;
  resets = change.resets;
  accepted = s.accepted + 1;
}

abbrev pub resets_with : ℕ → Update → ℕ
resets_with resets u = if is_reset u then resets + 1 else resets

-- the presentation that would be in force, at the time of its MPD
abbrev pub force_of : Standing → (newest : Option Presented) → Presented
force_of s newest = unwrap_or newest (unwrap_or s.newest s.opened)

-- it is that of the update's MPD, or it is in force already
pub record IsPresented (s : Standing) (coming : Coming) (now : ℤ) (force : Presented) : Type 0 where
  pub comes : Comes s coming force now
  pub forced : force_by (common_shown s).terms (in_force s) (update_of coming now) ≡ Ok (looked_at now force)

-- an error is that of an MPD without a presentation
abbrev pub IsUnpresented : Standing → Update → Refusal → Type 0
IsUnpresented s u refusal = (fault : PresentationFault) × (force_by (common_shown s).terms (in_force s) u ≡ Err fault) ×
    (refusal ≡ Presentation fault)

-- ---- the tracks

-- the first section of a Period that was never seen
abbrev pub first_new : Next → ℕ
first_new n = length (n.standing.now).known - n.place

abbrev pub shown_in : Next → List Track
shown_in n = map track_shown n.tracks.now

abbrev pub new_in_all : Next → ℕ
new_in_all n = new_count (coming_of n) 0 (shown_in n)

-- the new segments of an update were made; the list is empty where there are none at all
pub record AreNewOf (n : Next) (new : List MadeTrack) (before after : ℕ) : Type 0 where
  pub made : AreMade (coming_of n) (shown_in n) new before after
  pub many : length new ≤ length n.tracks.now
  pub none : new_in_all n ≡ 0 → new ≡ []

-- some are new, and not all of them were made
pub record AreNotMade (n : Next) (fault : RefreshFault) (before after : ℕ) : Type 0 where
  pub unmade : AreUnmade (coming_of n) (shown_in n) fault before after
  pub some : 0 < new_in_all n

-- ---- a plan

-- the changes of an update are prepared
pub record IsPlanOf (n : Next) (plan : Plan) (before after : ℕ) : Type 0 where
  pub made : AreNewOf n plan.made.items before after
  pub periods : map known_shown plan.periods.items ≡ map (known_at n.force.now)
      (range_with_len (first_new n) (length (n.force.now).sections - first_new n))
  pub place : plan.change.place ≡ n.place
  pub instant : plan.change.instant ≡ n.now
  pub published : plan.change.published ≡ published_by (n.standing.now).published (mpd_of (update_of n.coming (pos 0)))
  pub resets : plan.change.resets ≡ resets_with (n.standing.now).resets (update_of n.coming (pos 0))

-- a URL is missing, or memory ran out, which can't happen for Periods where none is new
abbrev pub IsUnplanned : Next → RefreshFault → (before after : ℕ) → Type 0
IsUnplanned n fault before after = AreNotMade n fault before after
    ⊎ ((fault ≡ Memory) × (after ≡ before + new_in_all n) × (first_new n ≡ length (n.force.now).sections → ⊥))

-- An update is rejected, or memory runs out, which can't happen for a tick without new segments.
pub record IsRefused (s : State) (u : Update) (fault : RefreshFault) (before after : ℕ) : Type 0 where
  pub refused : IfSome (told fault) (λ refusal. refusal_of s u ≡ Some refusal)
  pub counted : CountsRefused (appended_by s u) before after fault
  pub ticks : mpd_of u ≡ None → appended_by s u ≡ 0 → fault ≡ Memory → ⊥

-- and the state is unchanged
pub record IsLeft (s : State) (u : Update) (fault : RefreshFault) (new : State) (before after : ℕ) : Type 0 where
  pub same : new ≡ s
  pub refusal : IsRefused s u fault before after

-- An update is accepted, with `n` segments.
pub record IsTaken (s : State) (u : Update) (n : ℕ) (new : State) (before after : ℕ) : Type 0 where
  pub next : next_of s u ≡ Ok new
  pub appended : n ≡ appended_by s u
  pub counted : after ≡ before + appended_by s u

-- the state after an update without the tracks, with its presentation at its time
abbrev pub left_by : Standing → (coming : Coming) → (now : ℤ) → (force : Presented) → Common
left_by s coming now force = common_with (common_shown s) (update_of coming now) (looked_at now force)

-- An update with this presentation is accepted, and all its changes are prepared.
pub record IsPlan (s : Standing) (tracks : List LiveTrack) (coming : Coming) (now : ℤ) (force : Presented) (plan : Plan)
    (before after : ℕ) : Type 0 where
  pub forced : force_by (common_shown s).terms (in_force s) (update_of coming now) ≡ Ok (looked_at now force)
  pub accepted : refusal_of (state_shown s tracks) (update_of coming now) ≡ None
  pub known : s.known ++ map known_shown plan.periods.items ≡ (left_by s coming now force).known
  pub stands : StandsAt (ids_of (left_by s coming now force).known) (ids_in (looked_at now force)) plan.change.place
  pub published : plan.change.published ≡ (left_by s coming now force).published
  pub instant : plan.change.instant ≡ now
  pub resets : plan.change.resets ≡ (left_by s coming now force).resets
  pub made : AreMade (left_by s coming now force) (map track_shown tracks) plan.made.items before after
  pub many : length plan.made.items ≤ length tracks
  pub appended : appended_by (state_shown s tracks) (update_of coming now) ≡ new_count (left_by s coming now force) 0
      (map track_shown tracks)
  pub unmade : new_count (left_by s coming now force) 0 (map track_shown tracks) ≡ 0 → plan.made.items ≡ []
  pub seen : mpd_of (update_of coming now) ≡ None → plan.periods.items ≡ []

-- the new segments may be added to tracks, and their first ones removed
pub record CanGoOn (s : Standing) (tracks : List LiveTrack) (made : List MadeTrack) : Type 0 where
  pub few : sum (map length (all_kept made)) < 2 ^ 63
  pub room : HaveRoom tracks made
  pub many : length made ≤ length tracks
  pub paired : All AreSideBySide tracks
  pub target : 1 ≤ s.target
  pub can : All IsTrimmable (grown (map track_shown tracks) (all_kept made))

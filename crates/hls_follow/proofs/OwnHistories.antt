-- What stays over every list of accepted snapshots with their files' times.
use Rattle.hls_follow.proofs.OwnTracks as own
use Rattle.hls_follow.proofs.OwnRuns as runs
use Rattle.std.proofs.Common.{◌≡◌, ℕ, List, [], ◌∷◌, slice_get, All, Option, Some, None, Result, Ok, Err, refl, sym, ◌∙◌, ap, subst}
use Rattle.std.proofs.lemmas.List.Elements.{All-head, All-tail}
use Rattle.hls_master.specs.declared.track.MasterTrack.{MasterTrack}
use Rattle.hls_presentation.specs.Tracks.{sources}
use Rattle.dash_writer.specs.declared.{live.LiveMpd.LiveMpd, live.LivePeriod.LivePeriod}
use Rattle.hls_follow.specs.{declared.state.Followed.Followed, declared.timed_fault.TimedFault.TimedFault, Listed.GoesOn}
use Rattle.hls_follow.specs.TimedHistories.{IsRound, Round, TimedPlaylistsAreListed, TimedRunsGoOn, TimedStartsStay}
use Rattle.hls_follow.specs.{TimedHistories.{TimesAreOwn, accepted_after, timed_by}, TimedListed.ListsOwnTrack}
use Rattle.hls_follow.proofs.OwnParts.{parts_of}

-- ---- by induction over snapshots

module _ (tracks : List MasterTrack) (folder : List ℕ) where
  record Accepted (former : Option Followed) (round : Round) (rounds : List Round) (new : Followed) : Type 0 where
    next : Followed
    accepted : timed_by tracks folder former round ≡ Ok next
    later : accepted_after tracks folder (Some next) rounds ≡ Some new

  accepted_of : (former : Option Followed) (round : Round) (rounds : List Round) (new : Followed)
      → accepted_after tracks folder former (round ∷ rounds) ≡ Some new → Accepted former round rounds new
  accepted_of former round rounds new is = by (timed_by tracks folder former round) refl
    where
      by : (r : Result Followed TimedFault) → timed_by tracks folder former round ≡ r → Accepted former round rounds new
      by (Ok next) r = record {
        next = next;
        accepted = r;
        later = (let h : accepted_after tracks folder former (round ∷ rounds) ≡ accepted_after tracks folder (Some next) rounds = rw r refl in
            sym h ∙ is);
      }
      by (Err fault) r = absurd (let h : accepted_after tracks folder former (round ∷ rounds) ≡ None = rw r refl in cc)

  -- what each snapshot leaves where it holds of what was there before
  abbrev pub Goes : (Round → Type 0) → (Followed → Type 0) → Type 0
  Goes R P = (former : Followed) (round : Round) (new : Followed) → P former → R round
      → timed_by tracks folder (Some former) round ≡ Ok new → P new

  pub over : (R : Round → Type 0) (P : Followed → Type 0) → Goes R P → (former : Followed) (rounds : List Round) (new : Followed)
      → All R rounds → P former → accepted_after tracks folder (Some former) rounds ≡ Some new → P new
  over R P goes former [] new whole was is = subst P (let same : former ≡ new = cc in same) was
  over R P goes former (round ∷ rounds) new whole was is =
      let a = accepted_of (Some former) round rounds new is in
      let here = goes former round a.next was (All-head R round rounds whole) a.accepted in
      over R P goes a.next rounds new (All-tail R round rounds whole) here a.later

  -- and the first one
  abbrev pub Begins : (Round → Type 0) → (Followed → Type 0) → Type 0
  Begins R P = (round : Round) (new : Followed) → R round → timed_by tracks folder None round ≡ Ok new → P new

  pub from_first : (R : Round → Type 0) (P : Followed → Type 0) → Begins R P → Goes R P → (rounds : List Round) (new : Followed)
      → All R rounds → accepted_after tracks folder None rounds ≡ Some new → P new
  from_first R P begins goes [] new whole is = absurd (cc)
  from_first R P begins goes (round ∷ rounds) new whole is =
      let a = accepted_of None round rounds new is in
      over R P goes a.next rounds new (All-tail R round rounds whole) (begins round a.next (All-head R round rounds whole) a.accepted) a.later

-- ---- the laws

pub times_are : TimesAreOwn
times_are tracks folder former round new place track given accepted at =
    own.times_are_own folder former (sources tracks round.medias) round new (parts_of tracks folder former round new accepted) place track at

start_stays : (tracks : List MasterTrack) (folder : List ℕ) (former : Followed) (round : Round) (new : Followed)
    → timed_by tracks folder (Some former) round ≡ Ok new → new.mpd.start ≡ former.mpd.start
start_stays tracks folder former round new accepted =
    let p = parts_of tracks folder (Some former) round new accepted in
    let same : former.mpd.start ≡ p.start = (let h = p.starts in cc) in
    ap (λ (mpd : LiveMpd). mpd.start) p.mpd ∙ sym same

pub starts_stay : TimedStartsStay
starts_stay tracks folder [] old new is = (let same : old ≡ new = cc in ap (λ (f : Followed). f.mpd.start) (sym same))
starts_stay tracks folder (round ∷ rounds) old new is =
    let a = accepted_of tracks folder (Some old) round rounds new is in
    starts_stay tracks folder rounds a.next new a.later ∙ start_stays tracks folder old round a.next a.accepted

pub last_are_listed : TimedPlaylistsAreListed
last_are_listed tracks folder rounds new place track are = from_first tracks folder (IsRound tracks)
    (λ (f : Followed). slice_get f.tracks place ≡ Some track → ListsOwnTrack f place track)
    (λ round new given accepted. own.lists_own folder None (sources tracks round.medias) round new
    (parts_of tracks folder None round new accepted) place track)
    (λ former round new was given accepted. own.lists_own folder (Some former) (sources tracks round.medias) round new
    (parts_of tracks folder (Some former) round new accepted) place track)
    rounds new are.whole are.left

pub runs_go_on : TimedRunsGoOn
runs_go_on tracks folder rounds new are = from_first tracks folder (IsRound tracks)
    (λ (f : Followed). All (λ (period : LivePeriod). All GoesOn period.runs) f.mpd.periods)
    (λ round new given accepted. runs.go_on folder None (sources tracks round.medias) round new (parts_of tracks folder None round new accepted))
    (λ former round new was given accepted. runs.go_on folder (Some former) (sources tracks round.medias) round new
    (parts_of tracks folder (Some former) round new accepted))
    rounds new are.whole are.left

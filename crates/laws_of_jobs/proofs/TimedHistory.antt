-- A run over snapshots and their media files leaves what its whole history of accepted ones leaves.
use Rattle.std.proofs.Common.{◌≡◌, ◌+◌, ℕ, List, [], ◌∷◌, length, take, drop, Option, Some, None}
use Rattle.std.proofs.{Common.{option_and_then, Result, Ok, refl, sym, ap, ◌∙◌, subst, arith}, lemmas.List.length-map}
use Rattle.std.proofs.{lemmas.List.Elements.{All-nil, All-cons, All-drop, All-head, All-tail, All-take}, Math.Seq.take-add}
use Rattle.std.specs.{List.All, Result.result_unwrap_or}
use Rattle.bridge_io.specs.Outside.{Files}
use Rattle.hls_master.specs.declared.track.MasterTrack.{MasterTrack}
use Rattle.hls_media.specs.{Laws.{IsBounded, ReadIsBounded}, declared.media.Media.Media}
use Rattle.hls_follow.specs.TimedHistories.{AreAccepted, IsRound, PeriodsAreInStep, Round as Snapshot, TimedPlaylistsAreListed}
use Rattle.hls_follow.specs.TimedHistories.{TimedRunsGoOn, TimedSegmentsStay, accepted_after, if_accepted, timed_by}
use Rattle.hls_follow.specs.declared.state.Followed.{Followed}
use Rattle.bridge_jobs.specs.declared.round.Round.{Round}
use Rattle.bridge_report.specs.{Following.unless_refused, Laws.{accepted_in, state_after}}
use Rattle.bridge_reach.specs.{Rounds.medias_of, declared.rounds.LiveRounds.LiveRounds}
use Rattle.bridge_reach.specs.TimedRoundLaws.{Run, accepted_among, first_of, followed_with, history_to, hls_in, left_by, snapshots_along}
use Rattle.bridge_reach.specs.TimedRoundLaws.{snapshots_in}
use Rattle.bridge_reach.proofs.TimedAccepted.{accepted_step}
use Rattle.laws_of_jobs.specs.TimedFollowing.{TimedLeftIsOfTheHistory, TimedListedSegmentsStay, TimedRunsListTheirPlaylists}
use Rattle.laws_of_jobs.proofs.History.{all_more, both, each_has}

abbrev pub State : Type 0
State = LiveRounds × Files

module _ (bounded : ReadIsBounded) (run : Run) where
  abbrev HasBodies : Round → Type 0
  HasBodies r = length r.bodies ≡ length run.tracks

  -- what accepted snapshots leave, and that they are snapshots
  pub record Goes (s : State) (xs : List Round) : Type 0 where
    pub kept : (state_after (followed_with (hls_in run)) s xs).0.follow.tracks ≡ run.tracks
    pub left : (state_after (followed_with (hls_in run)) s xs).0.follow.followed
        ≡ accepted_after run.tracks run.place.folder s.0.follow.followed (snapshots_along (hls_in run) s xs)
    pub whole : All (IsRound run.tracks) (snapshots_along (hls_in run) s xs)

  goes_on : (s : State) (x : Round) (xs : List Round) → s.0.follow.tracks ≡ run.tracks → HasBodies x
      → (followed_with (hls_in run)).refusal s x ≡ None
      → (((followed_with (hls_in run)).after s x).0.follow.tracks ≡ run.tracks → Goes ((followed_with (hls_in run)).after s x) xs)
      → Goes s (x ∷ xs)
  goes_on s x xs kept each accepted others =
      let hls = hls_in run in
      let urls = hls.hls.urls in
      let step = accepted_step hls s.1 s.0 x accepted in
      let rest = others (step.tracks ∙ kept) in
      let history = snapshots_along hls ((followed_with hls).after s x) xs in
      let read : result_unwrap_or (medias_of urls x.bodies) [] ≡ step.medias =
      ap (λ (r : Result (List Media) _). result_unwrap_or r []) step.read in
      let snapshot : Snapshot = record { now = x.now; medias = step.medias; files = s.1 } in
      let here : Snapshot = record { now = x.now; medias = result_unwrap_or (medias_of urls x.bodies) []; files = s.1 } in
      let same : here ≡ snapshot = ap (λ (medias : List Media). record { now = x.now; medias = medias; files = s.1 }) read in
      let follows : timed_by run.tracks run.place.folder s.0.follow.followed here ≡ Ok step.new =
      ap (timed_by run.tracks run.place.folder s.0.follow.followed) same
      ∙ subst (λ (ts : List MasterTrack). timed_by ts run.place.folder s.0.follow.followed snapshot ≡ Ok step.new) kept step.follows in
      let count : length urls ≡ length run.tracks = length-map run.tracks (λ (track : MasterTrack). track.address) in
      let all = all_more bounded urls x.bodies [] step.medias step.read (All-nil IsBounded) (omega (arith, each, count)) in
      let one : IsRound run.tracks snapshot = record { one_each = omega (arith, all.1, count); bounded = all.0 } in
      record {
        kept = rest.kept;
        left = rest.left ∙ ap (λ (f : Option Followed). accepted_after run.tracks run.place.folder f history) step.followed
            ∙ sym (ap (λ r. option_and_then (λ (new : Followed). accepted_after run.tracks run.place.folder (Some new) history)
            (if_accepted r)) follows);
        whole = All-cons (IsRound run.tracks) here history (subst (IsRound run.tracks) (sym same) one) rest.whole;
      }

  pub goes : (xs : List Round) (s : State) → s.0.follow.tracks ≡ run.tracks → All HasBodies xs
      → Goes s (accepted_in (followed_with (hls_in run)) s xs)
  goes [] s kept each = record { kept = kept; left = refl; whole = All-nil (IsRound run.tracks) }
  goes (x ∷ xs) s kept each =
      go ((followed_with (hls_in run)).refusal s x) refl (λ t same. goes xs t same (All-tail HasBodies x xs each))
    where
      go : (r : Option (List ℕ)) → (followed_with (hls_in run)).refusal s x ≡ r
          → ((t : State) → t.0.follow.tracks ≡ run.tracks → Goes t (accepted_in (followed_with (hls_in run)) t xs))
          → Goes s (unless_refused r (x ∷ accepted_in (followed_with (hls_in run)) ((followed_with (hls_in run)).after s x) xs)
          (accepted_in (followed_with (hls_in run)) s xs))
      go None accepted others = goes_on s x _ kept (All-head HasBodies x xs each) accepted
          (λ same. others ((followed_with (hls_in run)).after s x) same)
      go (Some why) refused others = others s kept

  abbrev each : All HasBodies (snapshots_in run)
  each = each_has run.job run.tracks run.bytes

  pub gone : (n : ℕ) → Goes (first_of run) (accepted_among run n)
  gone n = goes (take n (snapshots_in run)) (first_of run) refl (All-take HasBodies n (snapshots_in run) each)

  -- a run's history, where its state is known
  pub accepted_to : (n : ℕ) (followed : Followed) → (left_by run n).0.follow.followed ≡ Some followed
      → AreAccepted run.tracks run.place.folder None (history_to run n) followed
  accepted_to n followed left = let g = gone n in record { whole = g.whole; left = sym g.left ∙ left }

pub left_is : ReadIsBounded → TimedLeftIsOfTheHistory
left_is bounded run n = (gone bounded run n).left

pub segments_stay : ReadIsBounded → TimedSegmentsStay → TimedListedSegmentsStay
segments_stay bounded stay run m n old new place number placed was is at has =
    let f = followed_with (hls_in run) in
    let s = first_of run in
    let all = snapshots_in run in
    let each = each_has run.job run.tracks run.bytes in
    let first = gone bounded run m in
    let mid = left_by run m in
    let later = accepted_in f mid (take n (drop m all)) in
    let then = goes bounded run (take n (drop m all)) mid first.kept
    (All-take (HasBodies bounded run) n (drop m all) (All-drop (HasBodies bounded run) m all each)) in
    let parts : left_by run (m + n) ≡ state_after f mid later =
    ap (λ (xs : List Round). state_after f s (accepted_in f s xs)) (take-add m n all) ∙ both f (take m all) (take n (drop m all)) s in
    stay run.tracks run.place.folder _ _ old new place number placed
    (record { whole = first.whole; left = sym first.left ∙ was })
    (record {
      whole = then.whole;
      left = ap (λ (o : Option Followed). accepted_after run.tracks run.place.folder o (snapshots_along (hls_in run) mid later)) (sym was)
          ∙ sym then.left ∙ ap (λ (t : State). t.0.follow.followed) (sym parts) ∙ is;
    })
    at has

pub list_playlists : ReadIsBounded → TimedPlaylistsAreListed → TimedRunsGoOn → PeriodsAreInStep → TimedRunsListTheirPlaylists
list_playlists bounded listed goes step run n followed left =
    let are = accepted_to bounded run n followed left in
    let rounds = history_to run n in
    record {
      listed = λ place track at. listed run.tracks run.place.folder rounds followed place track are at;
      goes = goes run.tracks run.place.folder rounds followed are;
      step = step run.tracks run.place.folder rounds followed are;
    }

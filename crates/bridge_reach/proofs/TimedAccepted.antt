-- What snapshots leave that are accepted one after another by their media files.
use Rattle.std.proofs.Common.{◌≡◌, ℕ, ◌+◌, cond, List, [], ◌∷◌, take, Option, None, Some, option_map, Result, Ok, Err, refl, sym, ap, ◌∙◌}
use Rattle.std.proofs.Common.{subst}
use Rattle.std.proofs.lemmas.Slice.Eq.{bytes_eq-Decides}
use Rattle.std.specs.{Prelude.{IsSome, codes}, Option.option_map_or, Result.{result_err, result_unwrap_or}}
use Rattle.bridge_io.specs.{Answer.told_as, InOrder.put_all, Outside.{Changes, Files}}
use Rattle.bridge_io.proofs.AndThen.{steps_of}
use Rattle.presentation.proofs.Filling.{ok_under}
use Rattle.hls_media.specs.declared.media.Media.{Media}
use Rattle.hls_follow.specs.{declared.state.Followed.Followed, Rounds.Following, TimedRounds.{next_timed, timed_of}}
use Rattle.dash_writer.specs.Live.{live_text}
use Rattle.bridge_jobs.specs.{Frames.start, Laws.in_folder, declared.round.Round.Round}
use Rattle.bridge_courses.specs.{Courses.files_to, Steps.{taking, with_step}}
use Rattle.bridge_report.specs.Following.{accepted_with, course_from, judged_from, next_of, step_of, unless_refused}
use Rattle.bridge_report.specs.Refusals.{refusal_text}
use Rattle.bridge_report.specs.Laws.{IsRewritten, files_along, state_after}
use Rattle.bridge_report.proofs.FollowedLaws.{file_is as file_of, files_are}
use Rattle.bridge_steps.specs.Follow.{fault_line}
use Rattle.bridge_reach.specs.Rounds.{files_of, medias_of, mpd_text, round_stream}
use Rattle.bridge_reach.specs.{TimedRounds.{fault_text, followed_timed, taken, timed_state}, declared.rounds.LiveRounds.LiveRounds}
use Rattle.bridge_reach.specs.TimedRoundLaws.{AcceptedLeaveATimedMpd, NoneWriteNoTimedMpd, TimedCoursesAreFollowed}
use Rattle.bridge_reach.specs.TimedRoundLaws.{TimedFileIsOfTheHistory, accepted_among, first_of, followed_with, hls_in}
use Rattle.bridge_reach.specs.TimedRoundLaws.{snapshots_in}
use Rattle.bridge_reach.specs.declared.timed_rounds.TimedHls.{TimedHls}
use Rattle.bridge_reach.proofs.Accepted.{comes}

-- the playlists of an accepted snapshot, and what they leave
pub record TimedStep (hls : TimedHls) (files : Files) (s s' : LiveRounds) (x : Round) : Type 0 where
  pub medias : List Media
  pub read : medias_of hls.hls.urls x.bodies ≡ Ok medias
  pub new : Followed
  pub follows : timed_of s.follow.tracks s.follow.followed x.now medias hls.folder files ≡ Ok new
  pub tracks : s'.follow.tracks ≡ s.follow.tracks
  pub followed : s'.follow.followed ≡ Some new

module _ (hls : TimedHls) where
  -- ---- the course

  abbrev with_files : LiveRounds → Files → LiveRounds × Files
  with_files s files = (s, files)

  next_is : (r : Option (List ℕ)) (s after : LiveRounds) (files : Files)
      → with_files (unless_refused r after s) (put_all (unless_refused r (files_of hls.hls after) []) files)
      ≡ unless_refused r (with_files after (put_all (files_of hls.hls after) files)) (with_files s files)
  next_is None s after files = refl
  next_is (Some why) s after files = refl

  courses : (files : Files) (s : LiveRounds) (i a : ℕ) (xs : List Round) (fault : Option (List ℕ))
      → judged_from (followed_timed hls) files s i a xs fault ≡ course_from (followed_with hls) (s, files) i a xs fault
  unfolding judged_from course_from
  courses files s i a [] fault = refl
  courses files s i a (x ∷ xs) fault =
      let f = followed_timed hls files in
      let step = step_of f s i x in
      let accepted = accepted_with f s x a in
      ap (with_step step) (courses (put_all step.files files) (next_of f s x) (i + 1) accepted xs fault
      ∙ ap (λ next. course_from (followed_with hls) next (i + 1) accepted xs fault) (next_is (f.refusal s x) s (f.after s x) files))

  -- ---- one snapshot

  pub timed_step : (files : Files) (s s' : LiveRounds) (x : Round) → timed_state hls files s x ≡ Ok s' → TimedStep hls files s s' x
  unfolding timed_state taken next_timed
  timed_step files s s' x is =
      let a = steps_of (told_as refusal_text (medias_of hls.hls.urls x.bodies)) (taken hls files s x.now) s' is in
      let next = next_timed s.follow x.now a.value hls.folder files in
      let b = steps_of (told_as (fault_text hls) next) _ s' a.then in
      let c = steps_of (timed_of s.follow.tracks s.follow.followed x.now a.value hls.folder files) _ b.value
      (ok_under (fault_text hls) next b.value b.first) in
      let inner : record s.follow { followed = Some c.value } ≡ b.value = (let h = c.then in cc) in
      let outer : (let t : LiveRounds = record { follow = b.value; accepted = s.accepted + 1 } in t) ≡ s' = (let h = b.then in cc) in
      record {
        medias = a.value;
        read = ok_under refusal_text (medias_of hls.hls.urls x.bodies) a.value a.first;
        new = c.value;
        follows = c.first;
        tracks = ap (λ (t : LiveRounds). t.follow.tracks) (sym outer) ∙ ap (λ (f : Following). f.tracks) (sym inner);
        followed = ap (λ (t : LiveRounds). t.follow.followed) (sym outer) ∙ ap (λ (f : Following). f.followed) (sym inner);
      }

  pub accepted_step : (files : Files) (s : LiveRounds) (x : Round) → (followed_timed hls files).refusal s x ≡ None
      → TimedStep hls files s ((followed_timed hls files).after s x) x
  accepted_step files s x is = go (timed_state hls files s x) refl is
    where
      go : (r : Result LiveRounds (List ℕ)) → timed_state hls files s x ≡ r → result_err r ≡ None
          → TimedStep hls files s (result_unwrap_or r s) x
      go (Ok s') e accepted = timed_step files s s' x e
      go (Err why) e accepted = absurd (cc)

  abbrev HasMpd : LiveRounds × Files → Type 0
  HasMpd s = IsSome s.0.follow.followed

  leaves_mpd : (s : LiveRounds × Files) (x : Round) → (followed_with hls).refusal s x ≡ None → HasMpd ((followed_with hls).after s x)
  leaves_mpd s x is = let step = accepted_step s.1 s.0 x is in subst IsSome (sym step.followed) refl

  -- the one file is written anew
  rewritten : IsRewritten (followed_with hls) hls.hls.name (λ s. mpd_text hls.hls.form s.0)
  rewritten s x files = let text = mpd_text hls.hls.form ((followed_timed hls s.1).after s.0 x) in
      ap (λ b. cond b (Some text) (files hls.hls.name)) ((bytes_eq-Decides hls.hls.name hls.hls.name).1 refl)

-- ---- a run

pub courses_are : TimedCoursesAreFollowed
courses_are run = let hls = hls_in run in let stream = round_stream hls.hls start run.bytes in
    ap (taking stream.2) (courses hls run.files (first_of run).0 0 0 stream.0 (option_map fault_line stream.1))

pub leave_an_mpd : AcceptedLeaveATimedMpd
leave_an_mpd run n round more is =
    comes (followed_with (hls_in run)) (HasMpd (hls_in run)) (leaves_mpd (hls_in run)) (take n (snapshots_in run))
    (first_of run) round more is

pub file_is : TimedFileIsOfTheHistory
file_is run n followed first last left puts = go (accepted_among run n) refl left
  where
    go : (xs : List Round) → accepted_among run n ≡ xs
        → (state_after (followed_with (hls_in run)) (first_of run) xs).0.follow.followed ≡ Some followed
        → last (in_folder run.job.out (codes "live.mpd")) ≡ Some (live_text run.job.form followed.mpd)
    go [] e none = absurd (cc)
    go (x ∷ more) e left = let hls = hls_in run in let stream = round_stream hls.hls start run.bytes in
        file_of (followed_with hls) (in_folder run.job.out (codes "live.mpd")) (λ s. mpd_text run.job.form s.0) (rewritten hls)
        (first_of run)
        0 0 stream.0 (option_map fault_line stream.1) n x more first last e
        (subst (λ course. Changes (put_all (files_to n course)) (Some first) (Some last)) (courses_are run) puts)
        ∙ ap (λ (o : Option Followed). Some (option_map_or (λ f. live_text run.job.form f.mpd) o [])) left

pub none_write : NoneWriteNoTimedMpd
none_write run n none =
    let hls = hls_in run in
    let stream = round_stream hls.hls start run.bytes in
    ap (files_to n) (courses_are run)
    ∙ files_are (followed_with hls) (first_of run) 0 0 stream.0 (option_map fault_line stream.1) n
    ∙ ap (files_along (followed_with hls) (first_of run)) none

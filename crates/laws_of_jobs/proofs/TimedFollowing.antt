-- What runs of `follow-hls-times` leave.
use Rattle.std.proofs.Common.{◌≡◌, ℕ, List, [], ◌∷◌, length, Option, None, Some, inl, inr, refl, sym, ap, ◌∙◌, subst, option_map}
use Rattle.std.proofs.{lemmas.Option.same_Some}
use Rattle.std.specs.{Prelude.{IsSome}}
use Rattle.bridge_io.specs.{InOrder.put_all, Outside.{Files, Changes}}
use Rattle.bridge_jobs.specs.{Frames.start, declared.round.Round.Round}
use Rattle.bridge_courses.specs.{Courses.{Course, files_to}, Laws.{ExecutionLeavesSteps, ReadFaultLeavesSteps, VerdictKeepsSteps}}
use Rattle.hls_follow.specs.declared.state.Followed.{Followed}
use Rattle.bridge_playlists.specs.{Places.store_place_of}
use Rattle.bridge_steps.specs.Follow.{course_placed, fault_line}
use Rattle.bridge_reach.specs.{Rounds.round_stream, TimedRounds.{course_of as timed_course_of, timed_at, timed_course}}
use Rattle.bridge_reach.specs.TimedRoundLaws.{AcceptedLeaveATimedMpd, NoneWriteNoTimedMpd, Run, TimedCoursesAreFollowed}
use Rattle.bridge_reach.specs.TimedRoundLaws.{TimedFileIsOfTheHistory, accepted_among, course_in, first_of, followed_with, hls_in, left_by}
use Rattle.bridge_core.specs.Courses.{course_of, course_of_job}
use Rattle.laws_of_jobs.specs.TimedFollowing.{HoldsTimedMpd, IsFollowingTimes, TimedFilesAreOfTheHistory, TimedRunLeavesHistory}
use Rattle.laws_of_jobs.specs.TimedFollowing.{snapshots_of}
use Rattle.laws_of_jobs.proofs.{Ends.leaves_all, Steps.as_many_steps}

-- ---- the course

pub course_is : (words : List (List ℕ)) (run : Run) (course : Course) → IsFollowingTimes words run course → course ≡ course_in run
unfolding course_of timed_course
course_is words run course is =
    let at = timed_at run.job (Some run.files) (Some run.bytes) in
    let goes : course_placed at (store_place_of run.job.base run.job.master) ≡ Some course =
    subst (λ asked. course_of_job asked (Some run.files) (Some run.bytes) ≡ Some course) is.asks is.goes in
    let there : Some (course_in run) ≡ Some course =
    ap (timed_course_of run.job run.place run.files (Some run.bytes)) (sym is.read)
    ∙ ap (course_placed at) (sym is.at) ∙ goes in
    sym (same_Some _ _ there)

-- ---- the files of the first snapshots

module _ (leave : AcceptedLeaveATimedMpd) (file : TimedFileIsOfTheHistory) (write : NoneWriteNoTimedMpd) where
  holds_by : (run : Run) (n : ℕ) (first last : Files) (accepted : List Round) → accepted_among run n ≡ accepted
      → Changes (put_all (files_to n (course_in run))) (Some first) (Some last) → HoldsTimedMpd run n first last
  holds_by run n first last [] none done =
      let written = write run n none in
      inl (none, same_Some _ _ (subst (λ fs. Changes (put_all fs) (Some first) (Some last)) written done))
  holds_by run n first last (round ∷ more) some done = go (left_by run n).0.follow.followed refl (leave run n round more some)
    where
      go : (o : Option Followed) → (left_by run n).0.follow.followed ≡ o → IsSome (left_by run n).0.follow.followed
          → HoldsTimedMpd run n first last
      go None is there = absurd (let none = subst IsSome is there in cc)
      go (Some followed) is there = inr (followed, is, file run n followed first last is done)

  pub files_are : TimedFilesAreOfTheHistory
  files_are words run course n first last is done =
      holds_by run n first last (accepted_among run n) refl
      (subst (λ (c : Course). Changes (put_all (files_to n c)) (Some first) (Some last)) (course_is words run course is) done)

-- ---- whole runs

pub leaves : TimedCoursesAreFollowed → TimedFilesAreOfTheHistory → ExecutionLeavesSteps → VerdictKeepsSteps → ReadFaultLeavesSteps
    → TimedRunLeavesHistory
leaves courses holds ends keeps fault words run course is =
    let stream = round_stream (hls_in run).hls start run.bytes in
    let all : length course.steps ≡ snapshots_of run =
    ap (λ (c : Course). length c.steps) (course_is words run course is ∙ courses run)
    ∙ as_many_steps (followed_with (hls_in run)) (first_of run) 0 0 stream.0 (option_map fault_line stream.1) in
    leaves_all (HoldsTimedMpd run) course
    (λ n first last done. holds words run course n first last is done) ends keeps fault (snapshots_of run) all

-- What runs of `follow-hls` leave.
use Rattle.std.proofs.Common.{◌≡◌, ℕ, List, [], ◌∷◌, length, Option, None, Some, inl, inr, refl, sym, ap, ◌∙◌, subst, option_map}
use Rattle.std.proofs.{lemmas.Option.same_Some}
use Rattle.std.specs.{Prelude.IsSome}
use Rattle.bridge_io.specs.{InOrder.put_all, Outside.{Files, Changes}}
use Rattle.bridge_jobs.specs.{Frames.start, declared.jobs.MasterJob.MasterJob, declared.round.Round.Round}
use Rattle.bridge_courses.specs.{Courses.{Course, files_to}, Laws.{ExecutionLeavesSteps, ReadFaultLeavesSteps, VerdictKeepsSteps}}
use Rattle.hls_master.specs.declared.track.MasterTrack.{MasterTrack}
use Rattle.hls_follow.specs.declared.state.Followed.{Followed}
use Rattle.bridge_playlists.specs.{Places.store_place_of}
use Rattle.bridge_steps.specs.Follow.{course_placed, fault_line}
use Rattle.bridge_reach.specs.RoundLaws.{AcceptedLeaveAnMpd, FileIsOfTheHistory, NoneWriteNothing, accepted_among, left_by}
use Rattle.bridge_reach.specs.Rounds.{course_with, followed_rounds, hls_of, no_rounds, round_stream, rounds_at, rounds_course, rounds_of}
use Rattle.bridge_core.specs.Courses.{course_of, course_of_job}
use Rattle.laws_of_jobs.specs.RoundRuns.{FollowHlsLeavesHistory, HoldsMpd, IsFollowingRounds, RoundFilesAreOfTheHistory, rounds_in}
use Rattle.laws_of_jobs.proofs.{Ends.leaves_all, Steps.as_many_steps}

-- ---- the course

pub course_is : (words : List (List ℕ)) (job : MasterJob) (files : Files) (tracks : List MasterTrack) (input : List ℕ) (course : Course)
    → IsFollowingRounds words job files tracks input course → course ≡ course_with job tracks input
unfolding course_of rounds_course
course_is words job files tracks input course is =
    let goes : course_placed (rounds_at job (Some files) (Some input)) (store_place_of job.base job.master) ≡ Some course =
    subst (λ asked. course_of_job asked (Some files) (Some input) ≡ Some course) is.asks is.goes in
    let there : Some (course_with job tracks input) ≡ Some course =
    ap (rounds_of job (Some input)) (sym is.read)
    ∙ ap (course_placed (rounds_at job (Some files) (Some input))) (sym is.at) ∙ goes in
    sym (same_Some _ _ there)

-- ---- the files of the first rounds

module _ (leave : AcceptedLeaveAnMpd) (file : FileIsOfTheHistory) (write : NoneWriteNothing) where
  holds_by : (job : MasterJob) (tracks : List MasterTrack) (input : List ℕ) (n : ℕ) (first last : Files) (accepted : List Round)
      → accepted_among job tracks input n ≡ accepted
      → Changes (put_all (files_to n (course_with job tracks input))) (Some first) (Some last)
      → HoldsMpd job tracks input n first last
  holds_by job tracks input n first last [] none done =
      let written = write job tracks input n none in
      inl (none, same_Some _ _ (subst (λ fs. Changes (put_all fs) (Some first) (Some last)) written done))
  holds_by job tracks input n first last (round ∷ more) some done =
      go (left_by job tracks input n).follow.followed refl (leave job tracks input n round more some)
    where
      go : (o : Option Followed) → (left_by job tracks input n).follow.followed ≡ o
          → IsSome (left_by job tracks input n).follow.followed → HoldsMpd job tracks input n first last
      go None is there = absurd (let none = subst IsSome is there in cc)
      go (Some followed) is there = inr (followed, is, file job tracks input n followed first last is done)

  pub files_are_of_the_history : RoundFilesAreOfTheHistory
  files_are_of_the_history words job files tracks input course n first last is done =
      holds_by job tracks input n first last (accepted_among job tracks input n) refl
      (subst (λ (c : Course). Changes (put_all (files_to n c)) (Some first) (Some last))
      (course_is words job files tracks input course is) done)

-- ---- whole runs

pub follow_hls_leaves : RoundFilesAreOfTheHistory → ExecutionLeavesSteps → VerdictKeepsSteps → ReadFaultLeavesSteps
    → FollowHlsLeavesHistory
follow_hls_leaves holds ends keeps fault words job files tracks input course is =
    let stream = round_stream (hls_of job tracks) start input in
    let all : length course.steps ≡ rounds_in job tracks input =
    ap (λ (c : Course). length c.steps) (course_is words job files tracks input course is)
    ∙ as_many_steps (followed_rounds (hls_of job tracks)) (no_rounds tracks) 0 0 stream.0 (option_map fault_line stream.1) in
    leaves_all (HoldsMpd job tracks input) course
    (λ n first last done. holds words job files tracks input course n first last is done) ends keeps fault
    (rounds_in job tracks input) all

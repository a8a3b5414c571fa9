-- What is written has the times that media files state, and what `agree` tells of these.
use Rattle.bridge_courses.specs.declared.status.Status.TheVariants as status
use Rattle.bridge_courses.specs.declared.status.Verdict.TheVariants as verdict
use Rattle.std.proofs.Common.{◌≡◌, ℕ, Bool, true, false, List, Option, None, Some, option_map, Result, Ok, Err, refl, sym, ◌∙◌, ap, subst}
use Rattle.std.proofs.lemmas.List.{append-nil}
use Rattle.bridge_io.specs.{InOrder.put_all, Outside.Files}
use Rattle.bridge_jobs.specs.declared.jobs.{AgreeJob.AgreeJob, MasterJob.MasterJob}
use Rattle.bridge_courses.specs.{Courses.{Course, World, files_of}, Laws.{DoneIsWhole, VerdictKeepsSteps}, Executions.IsExecution}
use Rattle.bridge_courses.specs.{Executions.status_by, declared.status.Verdict.Verdict}
use Rattle.bridge_report.specs.{Outcomes.{Ends, Outcome, base_refused, course_by, outcome_told}, Reading.Named}
use Rattle.bridge_playlists.specs.{declared.place.StorePlace.StorePlace, Places.store_place_of}
use Rattle.bridge_steps.specs.Endings.{placed}
use Rattle.bridge_reach.specs.{Agree.{agree_at, agree_outcome, judged}, DashTimes.{Timed, dash_times_at, dash_times_outcome}}
use Rattle.bridge_reach.specs.{DashTimes.{files_of as timed_files, line_of, outcome_of, timed_at}, Promises.{DifferIsApart}}
use Rattle.bridge_reach.specs.{Promises.{DoneAgrees, WrittenAreFileTimes}}
use Rattle.bridge_core.specs.{Courses.{course_of, course_of_job}, TimesPromises.{DifferHasAnother, DoneHasTheFilesTimes, HasTheFilesTimes}}
use Rattle.bridge_core.specs.TimesPromises.{WrittenHasTheFilesTimes}
use Rattle.bridge_core.proofs.DoneAt.{IsDoneAt, done_at}

-- ---- `dash-times`

module _ (done : DoneIsWhole) (keeps : VerdictKeepsSteps) (timed : WrittenAreFileTimes) where
  outcome_there : (job : MasterJob) (first : Files) (place : Option StorePlace) (found : StorePlace) (value : Timed) → place ≡ Some found
      → timed_at job.form found first ≡ Ok value → placed (dash_times_at job (Some first)) place ≡ Some (outcome_of job (Ok value))
  outcome_there job first place found value at is =
      ap (λ p. placed (dash_times_at job (Some first)) p) at ∙ ap (λ r. Some (outcome_of job r)) is

  left_by : (job : MasterJob) (course : Course) (before after : World) (first last : Files) → before.files ≡ Some first
      → after.files ≡ Some last → IsDoneAt (outcome_of job) (timed_at job.form) (store_place_of job.base job.master) first course
      → IsExecution course status.Done before after → HasTheFilesTimes job first last
  unfolding dash_times_outcome
  left_by job course before after first last was is by run =
      let pieces : List (List ℕ × List ℕ) = timed_files job by.value in
      let files : files_of course ≡ pieces = ap files_of by.goes ∙ append-nil pieces in
      let left : Some last ≡ Some (put_all pieces first) =
      sym is ∙ (done course before after run).files ∙ ap (λ fs. option_map (put_all fs) before.files) files
      ∙ ap (option_map (put_all pieces)) was in
      record {
        written = pieces;
        timed = timed job first pieces _ _ (outcome_there job first (store_place_of job.base job.master) by.found by.value by.at by.is);
        left = cc;
      }

  pub written_has_times : WrittenHasTheFilesTimes
  unfolding course_of dash_times_outcome
  written_has_times words job input course before after first last asks was is goes run =
      let by = done_at (timed_files job) line_of (timed_at job.form) keeps before after (store_place_of job.base job.master) first course
      (subst (λ asked. course_of_job asked (Some first) input ≡ Some course) asks goes) run in
      left_by job course before after first last was is by run

-- ---- `agree`

-- how it ends: it writes nothing
pub record IsToldAs (outcome : Option Outcome) (end : Verdict) (line : List ℕ) : Type 0 where
  pub reads : Bool
  pub counts : Bool
  pub told : outcome ≡ Some (Ends end line reads counts)

told_so : (read : Result (Verdict × List ℕ) Named) (course : Course) → course_by (outcome_told read) ≡ course
    → IsToldAs (Some (outcome_told read)) course.end.verdict course.end.lines
told_so (Ok told) course is = record {
  reads = true;
  counts = false;
  told = subst (λ c. Some (Ends told.0 told.1 true false)
      ≡ Some (Ends c.end.verdict c.end.lines true false)) is refl;
}
told_so (Err named) course is = record {
  reads = true;
  counts = false;
  told = subst (λ c. Some (outcome_told (Err named))
      ≡ Some (Ends c.end.verdict c.end.lines true false)) is refl;
}

told_at : (place : Option StorePlace) (files : Files) (course : Course)
    → option_map course_by (placed (agree_at (Some files)) place) ≡ Some course
    → IsToldAs (placed (agree_at (Some files)) place) course.end.verdict course.end.lines
told_at None files course goes = record {
  reads = false;
  counts = true;
  told = (let same : course_by base_refused ≡ course = cc in
      subst (λ c. Some base_refused ≡ Some (Ends c.end.verdict c.end.lines false true)) same refl);
}
told_at (Some place) files course goes =
    let same : course_by (outcome_told (judged place files)) ≡ course = cc in told_so (judged place files) course same

module _ (keeps : VerdictKeepsSteps) where
  told_of : (job : AgreeJob) (v : Verdict) (course : Course) (before after : World) (files : Files)
      → option_map course_by (agree_outcome job (Some files)) ≡ Some course → IsExecution course (status_by v) before after
      → IsToldAs (agree_outcome job (Some files)) v course.end.lines
  unfolding agree_outcome
  told_of job v course before after files goes run =
      subst (λ end. IsToldAs (agree_outcome job (Some files)) end course.end.lines) (sym (keeps course v before after run).0)
      (told_at (store_place_of job.base job.mpd) files course goes)

  pub done_has_times : DoneAgrees → DoneHasTheFilesTimes
  unfolding course_of
  done_has_times agrees words job input course before after files asks was goes run =
      let by = told_of job verdict.Done course before after files
      (subst (λ asked. course_of_job asked (Some files) input ≡ Some course) asks goes) run in
      agrees job files course.end.lines by.reads by.counts by.told

  pub differ_has_another : DifferIsApart → DifferHasAnother
  unfolding course_of
  differ_has_another apart words job input course before after files asks was goes run =
      let by = told_of job verdict.Differ course before after files
      (subst (λ asked. course_of_job asked (Some files) input ≡ Some course) asks goes) run in
      apart job files course.end.lines by.reads by.counts by.told

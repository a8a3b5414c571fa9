-- What a run does where nothing fails, by its command line, the store's files and the input.
use Rattle.bridge_jobs.specs.declared.jobs.Job.TheVariants as job
use Rattle.bridge_courses.specs.declared.status.Verdict.TheVariants as verdict
use Rattle.bridge_courses.specs.declared.status.Status.TheVariants as status
use Rattle.std.specs.Prelude.{◌≡◌, ◌⊎◌, ◌≤◌, ℕ, true, false, List, Option, Some, None, option_map}
use Rattle.bridge_io.specs.{Fault.Rose, Outside.Files}
use Rattle.bridge_jobs.specs.{declared.jobs.Job.Job, Jobs.job_of}
use Rattle.bridge_courses.specs.{declared.ending.Ending.Ending, Executions.{status_of, words_line}, Courses.{Course, World}}
use Rattle.bridge_report.specs.Outcomes.{Outcome, Ends, course_by}
use Rattle.bridge_compare.specs.{Check.check_outcome, Compare.compare_outcome}
use Rattle.bridge_core.specs.{Dash.dash_outcome, Follow.followed_course, Hls.hls_outcome, Make.make_outcome}
use Rattle.bridge_core.specs.Show.{show_outcome}
use Rattle.bridge_playlists.specs.Reload.{reload_outcome}
use Rattle.bridge_reach.specs.{Agree.agree_outcome, DashTimes.dash_times_outcome, Index.index_outcome, Rounds.rounds_course}
use Rattle.bridge_reach.specs.TimedRounds.{timed_course}

abbrev pub no_job : Outcome
no_job = Ends verdict.Words words_line false true

-- for the commands that read everything before they write
abbrev pub outcome_of_job : Option Job → Option Files → Option Outcome
outcome_of_job (Some (job.Hls j)) files = hls_outcome j files
outcome_of_job (Some (job.Dash j)) files = dash_outcome j files
outcome_of_job (Some (job.Show j)) files = show_outcome j files
outcome_of_job (Some (job.Check j)) files = check_outcome j files
outcome_of_job (Some (job.Compare j)) files = compare_outcome j files
outcome_of_job (Some (job.Reload j)) files = reload_outcome j files
outcome_of_job (Some (job.Make j)) files = make_outcome j
outcome_of_job (Some (job.HlsIndex j)) files = index_outcome j files
outcome_of_job (Some (job.DashTimes j)) files = dash_times_outcome j files
outcome_of_job (Some (job.Agree j)) files = agree_outcome j files
outcome_of_job other files = Some no_job

-- What a run of this command line does with these files and this input. Where they aren't modelled, it is known if the command line
-- alone decides it. `follow` depends only on the input, `follow-hls` on the input and on the master playlist's file, `follow-hls-times`
-- on the input and the files, and the others on the files.
abbrev pub course_of_job : Option Job → Option Files → (input : Option (List ℕ)) → Option Course
course_of_job (Some (job.Follow j)) files input = followed_course j input
course_of_job (Some (job.FollowHls j)) files input = rounds_course j files input
course_of_job (Some (job.FollowHlsTimes j)) files input = timed_course j files input
course_of_job other files input = option_map course_by (outcome_of_job other files)

unfoldable pub course_of : (words : List (List ℕ)) → Option Files → (input : Option (List ℕ)) → Option Course
course_of words files input = course_of_job (job_of words) files input

-- ---- commands

-- the command follows an MPD, or playlists
abbrev pub Follows : Option Job → Type 0
Follows (Some (job.Follow j)) = Unit {0}
Follows (Some (job.FollowHls j)) = Unit {0}
Follows (Some (job.FollowHlsTimes j)) = Unit {0}
Follows other = ⊥

-- it reads no file of the store
abbrev pub ReadsNoFile : Option Job → Type 0
ReadsNoFile (Some (job.Follow j)) = Unit {0}
ReadsNoFile (Some (job.Make j)) = Unit {0}
ReadsNoFile other = ⊥

-- it writes none
abbrev pub WritesNoFile : Option Job → Type 0
WritesNoFile (Some (job.Show j)) = Unit {0}
WritesNoFile (Some (job.Check j)) = Unit {0}
WritesNoFile (Some (job.Compare j)) = Unit {0}
WritesNoFile (Some (job.Agree j)) = Unit {0}
WritesNoFile (Some (job.Reload j)) = Unit {0}
WritesNoFile other = ⊥

-- ---- causes

-- what a command reads failed, by counts of faults of the input and of the store: the input of a command that follows, the
-- store of any other, and either for one that follows playlists
abbrev pub ReadRose : Option Job → (input input' reads reads' : ℕ) → Type 0
ReadRose (Some (job.Follow j)) input input' reads reads' = Rose input input'
ReadRose (Some (job.FollowHls j)) input input' reads reads' = Rose input input' ⊎ Rose reads reads'
ReadRose (Some (job.FollowHlsTimes j)) input input' reads reads' = Rose input input' ⊎ Rose reads reads'
ReadRose (Some other) input input' reads reads' = Rose reads reads'
ReadRose None input input' reads reads' = ⊥

-- an I/O error has its cause, and `Words` comes only for a usage error
pub record IsBlamed (job : Option Job) (told : Ending) (before after : World) : Type 0 where
  pub read_fault : status_of told ≡ status.ReadFault
      → ReadRose job before.input_faults after.input_faults before.read_faults after.read_faults
  pub write_fault : status_of told ≡ status.WriteFault
      → Rose before.write_faults after.write_faults ⊎ Rose before.report_faults after.report_faults
  pub words : status_of told ≡ status.Words → job ≡ None
  pub report : before.report_faults ≤ after.report_faults

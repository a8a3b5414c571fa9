-- Faults of a run have their causes.
use Rattle.bridge_jobs.specs.declared.jobs.Job.TheVariants as job
use Rattle.bridge_courses.specs.declared.ending.Ending.TheVariants as ending
use Rattle.bridge_courses.specs.declared.status.Status.TheVariants as status
use Rattle.std.proofs.Common.{◌≡◌, ℕ, ◌≤◌, List, Option, None, Some, option_map, inl, inr, refl, subst, arith}
use Rattle.bridge_io.specs.{Fault.Rose, Outside.Files}
use Rattle.bridge_jobs.specs.declared.jobs.{Job.Job, FollowJob.FollowJob, MasterJob.MasterJob}
use Rattle.bridge_courses.specs.{declared.ending.Ending.Ending, Courses.World, declared.status.Status.Status, Executions.TellsAs}
use Rattle.bridge_courses.specs.Executions.{status_of}
use Rattle.bridge_courses.proofs.Statuses.{rose_later}
use Rattle.bridge_report.specs.Outcomes.{Outcome, course_by}
use Rattle.bridge_steps.specs.Endings.{JobEndsAs}
use Rattle.bridge_steps.proofs.Works.{met}
use Rattle.bridge_core.specs.Courses.{Follows, IsBlamed, ReadRose, course_of_job, outcome_of_job}

-- ---- of a job that follows

no_other : (told : Ending) (other : Status) → told ≡ ending.ReadFault → status_of told ≡ other → status.ReadFault ≡ other
no_other told other is ends = subst (λ (t : Ending). status_of t ≡ other) is ends

-- ---- of any other job

-- a job that is no such one
pub not_followed : (j : Job) → ((follow : FollowJob) → j ≡ job.Follow follow → ⊥) → ((follow : MasterJob) → j ≡ job.FollowHls follow → ⊥)
    → ((follow : MasterJob) → j ≡ job.FollowHlsTimes follow → ⊥) → Follows (Some j) → ⊥
not_followed (job.Hls j) one other timed f = f
not_followed (job.Dash j) one other timed f = f
not_followed (job.Follow j) one other timed f = one j refl
not_followed (job.Show j) one other timed f = f
not_followed (job.Check j) one other timed f = f
not_followed (job.Reload j) one other timed f = f
not_followed (job.Make j) one other timed f = f
not_followed (job.HlsIndex j) one other timed f = f
not_followed (job.DashTimes j) one other timed f = f
not_followed (job.Agree j) one other timed f = f
not_followed (job.FollowHls j) one other timed f = other j refl
not_followed (job.FollowHlsTimes j) one other timed f = timed j refl
not_followed (job.Compare j) one other timed f = f

store_read : (j : Job) → (Follows (Some j) → ⊥) → (i i' r r' : ℕ) → Rose r r' → ReadRose (Some j) i i' r r'
store_read (job.Hls j) other i i' r r' rose = rose
store_read (job.Dash j) other i i' r r' rose = rose
store_read (job.Follow j) other i i' r r' rose = absurd (other tt)
store_read (job.Show j) other i i' r r' rose = rose
store_read (job.Check j) other i i' r r' rose = rose
store_read (job.Reload j) other i i' r r' rose = rose
store_read (job.Make j) other i i' r r' rose = rose
store_read (job.HlsIndex j) other i i' r r' rose = rose
store_read (job.DashTimes j) other i i' r r' rose = rose
store_read (job.Agree j) other i i' r r' rose = rose
store_read (job.FollowHls j) other i i' r r' rose = absurd (other tt)
store_read (job.FollowHlsTimes j) other i i' r r' rose = absurd (other tt)
store_read (job.Compare j) other i i' r r' rose = rose

-- its course is that of its outcome
pub other_course : (j : Job) → (Follows (Some j) → ⊥) → (files : Option Files) (input : Option (List ℕ))
    → course_of_job (Some j) files input ≡ option_map course_by (outcome_of_job (Some j) files)
other_course (job.Hls j) other files input = refl
other_course (job.Dash j) other files input = refl
other_course (job.Follow j) other files input = absurd (other tt)
other_course (job.Show j) other files input = refl
other_course (job.Check j) other files input = refl
other_course (job.Reload j) other files input = refl
other_course (job.Make j) other files input = refl
other_course (job.HlsIndex j) other files input = refl
other_course (job.DashTimes j) other files input = refl
other_course (job.Agree j) other files input = refl
other_course (job.FollowHls j) other files input = absurd (other tt)
other_course (job.FollowHlsTimes j) other files input = absurd (other tt)
other_course (job.Compare j) other files input = refl

pub command_blamed : (o : Option Outcome) (j : Job) (told : Ending) (before after : World) → (Follows (Some j) → ⊥)
    → JobEndsAs o told (met before) (met after) → after.report_faults ≡ before.report_faults → IsBlamed (Some j) told before after
command_blamed o j told before after other done faults = record {
  read_fault = λ is. store_read j other _ _ _ _ (done.ends.read_fault is);
  write_fault = λ is. inl (done.ends.write_fault is);
  words = λ is. absurd (done.job is);
  report = omega (arith, faults);
}

-- ---- of none

none_blamed : (w : World) → IsBlamed None ending.Words w w
none_blamed w = record {
  read_fault = λ is. absurd (cc);
  write_fault = λ is. absurd (cc);
  words = λ is. refl;
  report = omega arith;
}

pub no_job_blamed : (j : Option Job) (w : World) → None ≡ j → IsBlamed j ending.Words w w
no_job_blamed j w none = subst (λ j. IsBlamed j ending.Words w w) none (none_blamed w)

pub memory_blamed : (j : Option Job) (w : World) → IsBlamed j ending.Memory w w
memory_blamed j w =
    record { read_fault = λ is. absurd (cc); write_fault = λ is. absurd (cc); words = λ is. absurd (cc); report = omega arith }

-- ---- how a run ends

-- what is told at the end, by the sink's count of faults before the work
pub told_earlier : (told : Ending) (end : Status) (f f' f'' : ℕ) (r r' : Option (List ℕ)) → f ≤ f' → TellsAs told end f' f'' r r'
    → TellsAs told end f f'' r r'
told_earlier told end f f' f'' r r' grows (inl tells) = inl tells
told_earlier told end f f' f'' r r' grows (inr (inl tells)) = inr (inl (tells.0, rose_later f f' f'' grows tells.1, tells.2))
told_earlier told end f f' f'' r r' grows (inr (inr tells)) = inr (inr tells)

-- Work of words that are no job, and of commands.
use Rattle.bridge_courses.specs.declared.ending.Ending.TheVariants as ending
use Rattle.std.proofs.Common.{◌≡◌, ℕ, List, Option, None, Some, refl, subst, sym}
use Rattle.std.specs.Option.{ForSome}
use Rattle.bridge_io.specs.Outside.{Files}
use Rattle.bridge_jobs.specs.declared.jobs.Job.{Job}
use Rattle.bridge_courses.specs.{declared.ending.Ending.Ending, Courses.{World}, Steps.Work}
use Rattle.bridge_report.specs.Outcomes.{course_by}
use Rattle.bridge_steps.specs.Endings.{JobEndsAs}
use Rattle.bridge_steps.proofs.{Works.{met, work_of, works}, Unplaced.stays}
use Rattle.bridge_core.specs.Courses.{Follows, course_of_job, no_job, outcome_of_job}
use Rattle.bridge_core.proofs.Blamed.{other_course}

pub none_worked : (w : World) → Work (course_by no_job) ending.Words w w
none_worked w = record {
  works = works no_job ending.Words w w (refl, refl, refl) (λ is. absurd (cc)) (λ is. absurd (cc)) refl refl (λ counts. refl);
  never_falls = stays w;
}

-- words that are no job
pub no_job_worked : (j : Option Job) (files : Option Files) (input : Option (List ℕ)) (w : World) → None ≡ j
    → ForSome (course_of_job j files input) (λ course. Work course ending.Words w w)
no_job_worked j files input w none =
    subst (λ j. ForSome (course_of_job j files input) (λ course. Work course ending.Words w w)) none
    (λ course is. subst (λ c. Work c ending.Words w w) (let same : course_by no_job ≡ course = cc in same) (none_worked w))

-- a job that words are
pub same_worked : (j found : Option Job) (files : Option Files) (input : Option (List ℕ)) (told : Ending) (w w' : World) → j ≡ found
    → ForSome (course_of_job j files input) (λ course. Work course told w w')
    → ForSome (course_of_job found files input) (λ course. Work course told w w')
same_worked j found files input told w w' is work =
    subst (λ j. ForSome (course_of_job j files input) (λ course. Work course told w w')) is work

-- a job that isn't followed does what its outcome says
pub command_worked : (j : Job) (other : Follows (Some j) → ⊥) (files : Option Files) (input : Option (List ℕ)) (told : Ending)
    (w w' : World)
    → JobEndsAs (outcome_of_job (Some j) files) told (met w) (met w') → w'.input ≡ w.input → w'.input_faults ≡ w.input_faults
    → w'.report_faults ≡ w.report_faults
    → w'.report ≡ w.report → ForSome (course_of_job (Some j) files input) (λ course. Work course told w w')
command_worked j other files input told w w' done unread inputs reports report =
    subst (λ o. ForSome o (λ course. Work course told w w')) (sym (other_course j other files input))
    (work_of (outcome_of_job (Some j) files) told w w' done.ends unread inputs reports report)

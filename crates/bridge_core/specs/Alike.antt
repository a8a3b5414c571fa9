-- What `hls`, `hls-index` and `follow` report doesn't depend on the form of what they write, nor on how that gives URLs.
use Rattle.bridge_jobs.specs.declared.jobs.Job.TheVariants as job
use Rattle.std.specs.Prelude.{◌≡◌, ℕ, List, [], map, Option, Some, option_map}
use Rattle.bridge_io.specs.Outside.{Files}
use Rattle.bridge_jobs.specs.declared.jobs.{Addresses.Addresses, FollowJob.FollowJob, HlsJob.HlsJob, IndexJob.IndexJob, Job.Job}
use Rattle.bridge_courses.specs.Courses.{Course, Step}
use Rattle.segment_forms.specs.declared.form.Form.{Form}
use Rattle.bridge_core.specs.Courses.{course_of_job}

-- a file with its name alone
abbrev pub name_of : List ℕ × List ℕ → List ℕ × List ℕ
name_of file = (file.0, [])

-- a course without the texts of its files: their names, the report's lines, the verdict, the bounds on segments made
abbrev pub step_told : Step → Step
step_told step = record step { files = map name_of step.files }

abbrev pub course_told : Course → Course
course_told course = record course { steps = map step_told course.steps }

abbrev pub EndAlike : (one other : Job) → Type 0
EndAlike one other = (files : Option Files) (input : Option (List ℕ))
    → option_map course_told (course_of_job (Some one) files input) ≡ option_map course_told (course_of_job (Some other) files input)

-- Two commands that differ in their form and their addresses alone are rejected alike, report alike, and write files of the same
-- names.
pub record FormsEndAlike : Type 0 where
  pub hls : (j : HlsJob) (form : Form) (addresses : Addresses)
      → EndAlike (job.Hls j) (job.Hls (record j { form = form; addresses = addresses }))
  pub index : (j : IndexJob) (form : Form) (addresses : Addresses)
      → EndAlike (job.HlsIndex j) (job.HlsIndex (record j { form = form; addresses = addresses }))
  pub follow : (j : FollowJob) (form : Form) (addresses : Addresses)
      → EndAlike (job.Follow j) (job.Follow (record j { form = form; addresses = addresses }))

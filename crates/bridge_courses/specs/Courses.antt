-- What a run does where nothing fails: steps in order, and an end.
use Rattle.std.specs.Prelude.{◌≡◌, ℕ, ◌+◌, ◌<◌, ◌≤◌, Bool, IsTrue, List, [], ◌∷◌, ◌++◌, take, drop, slice_get, flat_map, sum_by, Option}
use Rattle.std.specs.Prelude.{Some, option_map, unwrap_or}
use Rattle.bridge_io.specs.{Outside.{Files, Changes, Appends}, InOrder.put_all}
use Rattle.bridge_courses.specs.declared.status.Verdict.{Verdict}

-- Files that are written in order, each a name and a text, and then lines of the report. `least` and `most` bound the
-- segments that are made for it. `reads` says that something is read before it.
pub record Step : Type 0 where
  pub files : List (List ℕ × List ℕ)
  pub lines : List ℕ
  pub least : ℕ
  pub most : ℕ
  pub reads : Bool

-- how a run ends, apart from I/O errors and running out of memory, with its last lines
pub record End : Type 0 where
  pub verdict : Verdict
  pub lines : List ℕ
  pub reads : Bool

-- `counts` says that the steps bound how many segments are made. `taken` is how many bytes of standard input are asked for before
-- each step, and after them before the end; none where it has no more.
pub record Course : Type 0 where
  pub steps : List Step
  pub end : End
  pub counts : Bool
  pub taken : List ℕ

-- the environment of a run: its I/O with the unread bytes of standard input, its counts of faults, and how many segments were made
pub record World : Type 0 where
  pub files : Option Files
  pub report : Option (List ℕ)
  pub input : Option (List ℕ)
  pub input_faults : ℕ
  pub read_faults : ℕ
  pub write_faults : ℕ
  pub report_faults : ℕ
  pub made : ℕ

-- the files of the first steps, and their lines
abbrev pub files_to : ℕ → Course → List (List ℕ × List ℕ)
files_to n course = flat_map (λ step. step.files) (take n course.steps)

abbrev pub lines_to : ℕ → Course → List ℕ
lines_to n course = flat_map (λ step. step.lines) (take n course.steps)

-- all files and all lines
abbrev pub files_of : Course → List (List ℕ × List ℕ)
files_of course = flat_map (λ step. step.files) course.steps

abbrev pub report_of : Course → List ℕ
report_of course = flat_map (λ step. step.lines) course.steps ++ course.end.lines

-- ---- standard input

-- the bytes that are asked for before the first n steps, and before the step after them, or the end
abbrev pub taken_to : ℕ → Course → ℕ
taken_to n course = sum_by (λ count. count) (take n course.taken)

abbrev pub taken_at : ℕ → Course → ℕ
taken_at n course = unwrap_or (slice_get course.taken n) 0

-- so many bytes of the input were read, or all where there are fewer
abbrev pub TakesBytes : (count : ℕ) → (before after : Option (List ℕ)) → Type 0
TakesBytes count before after = after ≡ option_map (drop count) before

-- fewer, and at most so many
abbrev pub TakesFewer : (count : ℕ) → (before after : Option (List ℕ)) → Type 0
TakesFewer count before after = (some : ℕ) × (some < count) × TakesBytes some before after

abbrev pub TakesAtMost : (count : ℕ) → (before after : Option (List ℕ)) → Type 0
TakesAtMost count before after = (some : ℕ) × (some ≤ count) × TakesBytes some before after

-- ---- progress

-- a number of segments between two bounds was made, where the course counts them
abbrev pub Makes : Course → (least most : ℕ) → (before after : World) → Type 0
Makes course least most before after = IsTrue course.counts → (before.made + least ≤ after.made) × (after.made ≤ before.made + most)

-- The first n steps are done: their files written in order, their lines reported, their segments made.
pub record Whole (n : ℕ) (course : Course) (before mid : World) : Type 0 where
  pub files : Changes (put_all (files_to n course)) before.files mid.files
  pub report : Appends (lines_to n course) before.report mid.report
  pub made : Makes course (sum_by (λ step. step.least) (take n course.steps)) (sum_by (λ step. step.most) (take n course.steps)) before mid

-- the end as a step without files
abbrev pub last_step : End → Step
last_step end = record { files = []; lines = end.lines; least = 0; most = 0; reads = end.reads }

-- The first n steps are done, with no more of the input than they ask for, and `step` is what follows them: a step, or the end.
pub record Reaches (course : Course) (before mid : World) (step : Step) : Type 0 where
  pub n : ℕ
  pub next : slice_get (course.steps ++ last_step course.end ∷ []) n ≡ Some step
  pub whole : Whole n course before mid
  pub input : TakesBytes (taken_to n course) before.input mid.input

-- The laws of runs on standard input.
use Rattle.bridge_io.specs.declared.outside.Fail.TheVariants as fail
use Rattle.bridge_courses.specs.declared.ending.Ending.TheVariants as ending
use Rattle.bridge_courses.specs.declared.status.Status.TheVariants as status
use Rattle.std.proofs.Common.{◌≡◌, ◌⊎◌, ℕ, zero, suc, ◌+◌, ◌≤◌, List, ◌∷◌, [], take, length, slice_get, inl, inr}
use Rattle.std.proofs.{Common.{refl, sym, ap, ◌∙◌, subst, arith}, lemmas.List.Sums.sum_by-cons}
use Rattle.std.specs.Prelude.{sum_by, unwrap_or}
use Rattle.bridge_io.specs.{Outside.Changes, InOrder.{put_all, AreBegun}}
use Rattle.bridge_courses.specs.{declared.ending.Ending.Ending, declared.status.Status.Status, declared.status.Verdict.Verdict}
use Rattle.bridge_courses.specs.Courses.{Course, Reaches, Step, TakesBytes, World, taken_at, taken_to}
use Rattle.bridge_courses.specs.Executions.{FailsTelling, Finishes, Tells, Works, status_by}
use Rattle.bridge_courses.specs.Laws.{ExecutionReadsSteps, ReadFaultReadsFewer, ReadsSteps, VerdictReadsAll}
use Rattle.bridge_courses.proofs.ExecutionLaws.{files_told, reading, verdict_finishes}
use Rattle.bridge_courses.proofs.StepLaws.{reached_leaves, finished_leaves}
use Rattle.bridge_courses.proofs.Stepping.{none_taken, taken_both}

-- one more step asks for its own bytes beyond those before
taken_beyond : (taken : List ℕ) (n : ℕ)
    → sum_by (λ count. count) (take n taken) + unwrap_or (slice_get taken n) 0 ≡ sum_by (λ count. count) (take (suc n) taken)
taken_beyond [] zero = refl
taken_beyond [] (suc n) = refl
taken_beyond (count ∷ taken) zero = let one = sum_by-cons (λ (count : ℕ). count) count [] in omega (arith, one)
taken_beyond (count ∷ taken) (suc n) = let more = taken_beyond taken n in
    let first = sum_by-cons (λ (count : ℕ). count) count (take n taken) in
    let all = sum_by-cons (λ (count : ℕ). count) count (take (suc n) taken) in omega (arith, more, first, all)

-- what the end tells reads nothing
input_told : (told : Ending) (end : Status) (before after : World) → Tells told end before after → after.input ≡ before.input
input_told told end before after tells = ap (λ world. world.input) tells.same

finished_reads : (course : Course) (v : Verdict) (line : List ℕ) (before after : World) → Finishes course v line before after
    → ReadsSteps course before after
finished_reads course v line before after works = record {
  leaves = finished_leaves course v line before after works;
  some = taken_at (length course.steps) course;
  within = omega arith;
  input = subst (λ k. TakesBytes k before.input after.input) (sym (taken_beyond course.taken (length course.steps))) works.input;
}

reached_reads : (course : Course) (before mid after : World) (step : Step) (reaches : Reaches course before mid step)
    → ((after.files ≡ mid.files) ⊎ (AreBegun step.files mid.files after.files ⊎ Changes (put_all step.files) mid.files after.files))
    → (some : ℕ) → some ≤ taken_at reaches.n course → TakesBytes some mid.input after.input → ReadsSteps course before after
reached_reads course before mid after step reaches left some within took = record {
  leaves = reached_leaves course before mid after.files step reaches left;
  some = some;
  within = within;
  input = taken_both (taken_to reaches.n course) some before.input mid.input after.input reaches.input took;
}

telling_reads : (course : Course) (before after : World) → FailsTelling course before after → ReadsSteps course before after
telling_reads course before after works =
    reached_reads course before works.mid after works.step works.reaches (inr (inr works.files)) _ (omega arith) works.input

works_read : (course : Course) (told : Ending) (before after : World) → Works course told before after → ReadsSteps course before after
works_read course (ending.Ended v line) before after works = finished_reads course v line before after works
works_read course ending.Words before after works = finished_reads course _ _ before after works
works_read course ending.ReadFault before after works =
    let by = reached_reads course before works.mid after works.step works.reaches (inl works.files) in
    elim works.rose [
      | inl (rose, inl same) ↦ by 0 (omega arith) (none_taken works.mid.input after.input same)
      | inl (rose, inr whole) ↦ by _ (omega arith) whole
      | inr (rose, fewer) ↦ by fewer.0 (omega (arith, fewer.1)) fewer.2
    ]
works_read course ending.WriteFault before after works =
    reached_reads course before works.mid after works.step works.reaches (inr (inl works.files)) _ (omega arith) works.input
works_read course ending.Memory before after works = elim works.left [
  | inl none ↦ reached_reads course before works.mid after works.step works.reaches (inl none.0) none.2.0 none.2.1 none.2.2
  | inr some ↦ reached_reads course before works.mid after works.step works.reaches (inr some.0) _ (omega arith) some.2
]
works_read course (ending.Cut fail.Failed) before after works = telling_reads course before after works.0
works_read course (ending.Cut fail.Memory) before after works = telling_reads course before after works

pub run_reads : ExecutionReadsSteps
run_reads course end before after run = let read = works_read course run.how before run.mid run.works in
    subst (ReadsSteps course before) (sym run.tells.same)
    (record { leaves = read.leaves; some = read.some; within = read.within; input = read.input })

pub verdict_reads_all : VerdictReadsAll
verdict_reads_all course v before after run = subst (TakesBytes (taken_to (suc (length course.steps)) course) before.input)
    (sym (input_told run.how (status_by v) run.mid after run.tells)) (verdict_finishes course v before after run).input

pub read_fault_reads_fewer : ReadFaultReadsFewer
read_fault_reads_fewer course before after run =
    let fails = reading course before after run in
    let files = files_told run.how status.ReadFault run.mid after run.tells in
    let input = input_told run.how status.ReadFault run.mid after run.tells in (
      fails.reaches.n,
      files ∙ fails.files ∙ fails.reaches.whole.files,
      elim fails.rose [
        | inl rose ↦ inl (rw run.tells.same rose.0)
        | inr rose ↦ inr (
          rose.1.0,
          rose.1.1,
          input ∙ taken_both (taken_to fails.reaches.n course) rose.1.0 before.input fails.mid.input
              run.mid.input fails.reaches.input rose.1.2,
        )
      ],
    )

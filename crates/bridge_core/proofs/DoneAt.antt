-- Runs that are done, of commands that write what they read.
use Rattle.bridge_courses.specs.declared.status.Status.TheVariants as status
use Rattle.bridge_courses.specs.declared.status.Verdict.TheVariants as verdict
use Rattle.std.proofs.Common.{◌≡◌, ℕ, Bool, List, Option, None, Some, option_map, Result, Ok, Err, refl, ◌∙◌, ap, subst}
use Rattle.bridge_io.specs.Outside.{Files}
use Rattle.bridge_courses.specs.{Courses.{Course, World}, Laws.VerdictKeepsSteps, Executions.IsExecution}
use Rattle.bridge_report.specs.{Outcomes.{Ends, Outcome, base_refused, course_by}, Reading.Named}
use Rattle.bridge_steps.specs.Endings.{outcome_written, placed}

-- its files have a place, and this is read there and written
pub record IsDoneAt {P Y : Type 0} (outcome : Result Y Named → Outcome) (read : P → Files → Result Y Named) (place : Option P)
    (first : Files) (course : Course) : Type 0 where
  pub found : P
  pub at : place ≡ Some found
  pub value : Y
  pub is : read found first ≡ Ok value
  pub goes : course ≡ course_by (outcome (Ok value))

module _ {P Y : Type 0} (files : Y → List (List ℕ × List ℕ)) (line : Y → List ℕ) (read : P → Files → Result Y Named)
    (keeps : VerdictKeepsSteps) (before after : World) where
  not_refused : (line : List ℕ) (reads counts : Bool)
      → IsExecution (course_by (Ends verdict.Refused line reads counts)) status.Done before after
      → ⊥
  not_refused line reads counts run = (let e = (keeps _ verdict.Done before after run).0 in absurd (cc))

  by_read : (r : Result Y Named) → IsExecution (course_by (outcome_written files line r)) status.Done before after → (y : Y) × (r ≡ Ok y)
  by_read (Ok y) run = (y, refl)
  by_read (Err named) run = absurd (not_refused _ _ _ run)

  pub done_at : (place : Option P) (first : Files) (course : Course)
      → option_map course_by (placed (λ found. option_map (λ all. outcome_written files line (read found all)) (Some first)) place) ≡ Some
      course
      → IsExecution course status.Done before after → IsDoneAt (outcome_written files line) read place first course
  done_at None first course goes run =
      let same : course ≡ course_by base_refused = cc in
      absurd (not_refused _ _ _ (subst (λ c. IsExecution c status.Done before after) same run))
  done_at (Some found) first course goes run =
      let same : course ≡ course_by (outcome_written files line (read found first)) = cc in
      let by = by_read (read found first) (subst (λ c. IsExecution c status.Done before after) same run) in
      record { found = found; at = refl; value = by.0; is = by.1; goes = same ∙ ap (λ r. course_by (outcome_written files line r)) by.1 }

-- The step of a frame.
use Rattle.bridge_courses.specs.declared.ending.Ending.TheVariants as ending
use Rattle.std.proofs.Common.{◌≡◌, ◌≤◌, ◌⊎◌, ℕ, ◌+◌, true, List, [], Option, None, Some, inl, inr, sym, ap, ◌∙◌, subst, arith}
use Rattle.bridge_io.specs.{Outside.{Appends, Changes, Files}, InOrder.put_all}
use Rattle.bridge_courses.specs.{declared.ending.Ending.Ending, Courses.{Step, World}, Steps.{StepIsDone, Stops, Halts, IsCutOff}}
use Rattle.bridge_courses.specs.Steps.{Outside, outside_of}
use Rattle.bridge_courses.proofs.Stepping.{none_put, halts_cut}
use Rattle.bridge_report.specs.Following.{Followed, unless_refused, line_by, accepted_line, refused_frame, step_of, next_of, accepted_with}
use Rattle.bridge_steps.specs.Follow.{Accepts}

-- the same, begun where the files and the count of faults are those
pub halts_from : (files : List (List ℕ × List ℕ)) (lines : List ℕ) (told : Ending) (o o' : Outside) (first : Option Files) (faults : ℕ)
    → o.files ≡ first → o.write_faults ≡ faults → Halts files lines told o o'
    → Halts files lines told (record o { files = first; write_faults = faults }) o'
halts_from files lines told o o' first faults is counts halts =
    subst (λ w. Halts files lines told (record o { files = first; write_faults = w }) o') counts
    (subst (λ fs. Halts files lines told (record o { files = fs }) o') is halts)

module _ {S X : Type 0} (f : Followed S X) (s : S) (i : ℕ) (x : X) where
  -- the step where the frame is refused so, or accepted
  abbrev step_by : Option (List ℕ) → Step
  step_by refusal = record {
    files = unless_refused refusal (f.files (f.after s x)) [];
    lines = line_by i (f.appended s x) refusal;
    least = unless_refused refusal (f.makes s x) 0;
    most = f.makes s x;
    reads = true;
  }

  step_is : (refusal : Option (List ℕ)) → f.refusal s x ≡ refusal → step_of f s i x ≡ step_by refusal
  step_is refusal is = ap step_by is

  -- what a frame leaves
  pub left_accepted : (s' : S) → f.refusal s x ≡ None → s' ≡ f.after s x → s' ≡ next_of f s x
  left_accepted s' is after = after ∙ sym (ap (λ r. unless_refused r (f.after s x) s) is)

  pub left_refused : (s' : S) (why : List ℕ) → f.refusal s x ≡ Some why → s' ≡ s → s' ≡ next_of f s x
  left_refused s' why is same = same ∙ sym (ap (λ r. unless_refused r (f.after s x) s) is)

  pub one_more : (accepted : ℕ) → f.refusal s x ≡ None → accepted + 1 ≡ accepted_with f s x accepted
  one_more accepted is = sym (ap (λ r. unless_refused r (accepted + 1) accepted) is)

  pub no_more : (accepted : ℕ) (why : List ℕ) → f.refusal s x ≡ Some why → accepted ≡ accepted_with f s x accepted
  no_more accepted why is = sym (ap (λ r. unless_refused r (accepted + 1) accepted) is)

  module _ (before after : World) where
    -- an accepted frame whose files are put and whose line is told, or where that ends
    pub accepted_done : (s' : S) (n : ℕ) → Accepts f s x s' n before.made after.made → Changes (put_all
        (f.files s')) before.files after.files
        → Appends (accepted_line i n) before.report after.report → StepIsDone (step_of f s i x) before after
    accepted_done s' n is files line = subst (λ step. StepIsDone step before after) (sym (step_is None is.accepted)) (record {
      files = subst (λ t. Changes (put_all (f.files t)) before.files after.files) is.after files;
      report = subst (λ k. Appends (accepted_line i k) before.report after.report) is.appended line;
      least = omega (arith, is.made);
      most = omega (arith, is.made);
    })

    pub accepted_stops : (told : Ending) (s' : S) (n : ℕ) → Accepts f s x s' n before.made after.made
        → Halts (f.files s') (accepted_line i n) told (outside_of before) (outside_of after) → Stops (step_of f s i x) told before after
    accepted_stops told s' n is halts =
        let numbered = subst (λ k. Halts (f.files s') (accepted_line i k) told (outside_of before) (outside_of after)) is.appended halts in
        let left = subst (λ t. Halts (f.files t) (accepted_line i (f.appended s x)) told (outside_of before)
        (outside_of after)) is.after numbered in
        subst (λ step. Stops step told before after) (sym (step_is None is.accepted)) (inl (
          left,
          omega (arith, is.made),
          omega (
            arith,
            is.made,
          ),
        ))

    -- a refused frame whose line is told, or where that ends
    module _ (why : List ℕ) (is : f.refusal s x ≡ Some why) (same : after.files ≡ before.files) (least : before.made ≤ after.made)
        (most : after.made ≤ before.made + f.makes s x) where
      pub refused_done : Appends (refused_frame i why) before.report after.report → StepIsDone (step_of f s i x) before after
      refused_done line = subst (λ step. StepIsDone step before after) (sym (step_is (Some why) is)) (record {
        files = none_put before.files after.files same;
        report = line;
        least = omega (arith, least);
        most = most;
      })

      pub refused_stops : (told : Ending) → ((told ≡ ending.Memory) × (after.report ≡ before.report)) ⊎ IsCutOff
          (refused_frame i why) told before.report_faults after.report_faults before.report after.report
          → Stops (step_of f s i x) told before after
      refused_stops told (inl m) = inr (m.0, same, m.1, least, most)
      refused_stops told (inr cut) = subst (λ step. Stops step told before after) (sym (step_is (Some why) is))
          (inl (
            halts_cut [] (refused_frame i why) told (outside_of before) (outside_of after)
                (none_put before.files after.files same) cut,
            omega (arith, least),
            most,
          ))

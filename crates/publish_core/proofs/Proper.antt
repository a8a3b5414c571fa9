-- A job that words give has two folders that differ, and a target duration that a playlist may have.
use Rattle.std.proofs.Common.{◌≡◌, ℕ, ◌^◌, ◌<◌, true, false, List, ◌∷◌, Option, Some, None, refl, sym, ◌∙◌, subst, inl, inr, arith}
use Rattle.std.proofs.Common.{bytes_eq}
use Rattle.std.proofs.lemmas.{Bool.{cases_Bool, ltb-true}, Option.same_Some, Slice.Eq.bytes_eq-Decides}
use Rattle.std.specs.{Prelude.{codes, nat_lt}, Option.option_and_then}
use Rattle.clap.specs.Words.{Row, Text, first_of}
use Rattle.bridge_jobs.specs.Numbers.{decimal_of}
use Rattle.publish_core.specs.Laws.{IsProper, JobsAreProper}
use Rattle.publish_core.specs.Words.{flag_of, folder_of, job_by, job_of, program_word, target_below, target_of, unless_one, values_of}
use Rattle.publish_core.specs.declared.job.PublishJob.{PublishJob}

-- what a step of a search found
record IsStep {A B : Type 0} (found : Option A) (next : A → Option B) (end : B) : Type 0 where
  value : A
  first : found ≡ Some value
  then : next value ≡ Some end

step_of : {A B : Type 0} (found : Option A) (next : A → Option B) (end : B) → option_and_then next found ≡ Some end → IsStep found next end
step_of None next end is = absurd (cc)
step_of (Some a) next end is = record { value = a; first = refl; then = is }

few_below : (n target : ℕ) → target_below n ≡ Some target → target < 2 ^ 31
few_below n target is = elim (cases_Bool (nat_lt n (2 ^ 31))) [
  | inl less ↦ let same = same_Some n target (rw less at is) in subst (λ (k : ℕ). k < 2 ^ 31) same (ltb-true n (2 ^ 31) less)
  | inr more ↦ let never : None ≡ Some target = rw more at is in absurd (cc)
]

few_target : (text : Option Text) (target : ℕ) → target_of text ≡ Some target → target < 2 ^ 31
few_target None target is = let same = same_Some 0 target is in subst (λ (k : ℕ). k < 2 ^ 31) same (omega arith)
few_target (Some text) target is = let step = step_of (decimal_of 10 text) target_below target is in few_below step.value target step.then

-- the two folders of a job
record IsOf (new served : Text) (made job : PublishJob) : Type 0 where
  apart : new ≡ served → ⊥
  same : made ≡ job

two_folders : (new served : Text) (made job : PublishJob) → unless_one new served made ≡ Some job → IsOf new served made job
two_folders new served made job is = elim (cases_Bool (bytes_eq new served)) [
  | inl one ↦ let never : None ≡ Some job = rw one at is in absurd (cc)
  | inr other ↦ record {
    apart = λ e. let two : true ≡ false = sym ((bytes_eq-Decides new served).1 e) ∙ other in cc;
    same = same_Some made job (rw other at is);
  }
]

proper : (rows : List Row) (job : PublishJob) → job_by rows ≡ Some job → IsProper job
unfolding job_by
proper rows job is =
    let new = step_of (folder_of (first_of (codes "new") rows)) _ job is in
    let served = step_of (folder_of (first_of (codes "served") rows)) _ job new.then in
    let target = step_of (target_of (first_of (codes "target") rows)) _ job served.then in
    let end = step_of (flag_of (first_of (codes "end") rows)) _ job target.then in
    let back = step_of (flag_of (first_of (codes "back") rows)) _ job end.then in
    let made = two_folders new.value served.value (record {
      new = new.value;
      served = served.value;
      target = target.value;
      options = record { end = end.value; back = back.value };
    }) job back.then in
    subst IsProper made.same (record { apart = made.apart; target = few_target (first_of (codes "target") rows) target.value target.first })

pub are_proper : JobsAreProper
unfolding job_of
are_proper words job is = let rows = step_of (values_of (program_word ∷ words)) job_by job is in proper rows.value job rows.then

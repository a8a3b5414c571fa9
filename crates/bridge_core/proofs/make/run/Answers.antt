use Rattle.bridge_courses.specs.declared.status.Verdict.TheVariants as verdict
use Rattle.bridge_report.specs.declared.reading.Halt.TheVariants as halt
use Rattle.bridge_core.proofs.make.run.Goals as goal
use Rattle.std.proofs.Common.{◌≡◌, ◌∙◌, ◌^◌, IsTrue, None, Some, IfSome, Result, Ok, Err, ap, false, subst}
use Rattle.presentation.specs.Presented.{Presented}
use Rattle.bridge_jobs.specs.declared.jobs.MakeJob.{MakeJob}
use Rattle.bridge_report.specs.{declared.reading.Halt.Halt, declared.refusal.Refusal.TheVariants.NotStatic, Outcomes.{Ends, course_by}}
use Rattle.bridge_report.specs.{Reading.{Named, halted}, Refusals.refusal_line}
use Rattle.bridge_steps.specs.Manifests.{mpd_in}
use Rattle.bridge_steps.proofs.Endings.{at_place, is_refused}
use Rattle.bridge_core.specs.{Make.{make_at, make_outcome, made_presentation, outcome_of, source_place}}

uncounted : (job : MakeJob) (r : Result Presented Named) → IsTrue (course_by (outcome_of job r)).counts → ⊥
uncounted job (Ok p) is = absurd (let e = is in cc)
uncounted job (Err named) is = absurd (let e = is in cc)

refused : (job : MakeJob) (r : Result Presented Named) (why : Halt) → IfSome (halted why) (λ named. r ≡ Err named)
    → IfSome (halted why) (λ named. outcome_of job r ≡ Ends verdict.Refused (refusal_line named.0 named.1) false false)
refused job r (halt.Refused file refusal) is = ap (outcome_of job) is
refused job r halt.ReadFault is = tt
refused job r halt.Memory is = tt

pub returns-in-Ok-source_place-clause-ends : goal.returns-in-Ok-source_place-clause-ends
unfolding make_outcome
returns-in-Ok-source_place-clause-ends g c =
    let job = c.args.job.now in let place = c.in-Ok-source_place.place in let read = c.in-Err-mpd_in.ensures in
    let why = c.in-Err-mpd_in.halt in
    let text = c.in-Ok-bytes_of.ensures ∙ c.in-Ok.ensures in
    let gives = subst (λ bytes. IfSome (halted why) (λ named. mpd_in (Some NotStatic) (10 ^ job.digits) None place bytes ≡ Err named)) text
    read.mpd in
    at_place source_place place (make_at job) c.halted.result _ _ c.in-Ok-source_place.ensures
    (is_refused _ _ _ _ _ why c.halted.result (outcome_of job (made_presentation job place)) c.halted.ensures
    (λ e. read.no_fault (ap Err e))
    (refused job (made_presentation job place) why gives) (uncounted job (made_presentation job place)))

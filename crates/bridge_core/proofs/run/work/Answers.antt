use Rattle.bridge_core.proofs.run.work.Goals as goal
use Rattle.std.proofs.Common.{◌≡◌, None, refl}
use Rattle.bridge_jobs.specs.Jobs.{job_of}
use Rattle.bridge_steps.proofs.{Grown.none_grown, Unplaced.memory_worked}
use Rattle.bridge_core.specs.Courses.{course_of}
use Rattle.bridge_core.proofs.{Blamed.{memory_blamed, no_job_blamed}, Worked.{no_job_worked, same_worked}}

pub returns-in-Ok-Some-clause-work : goal.returns-in-Ok-Some-clause-work
unfolding course_of
returns-in-Ok-Some-clause-work g c =
    let is = rw c.in-Ok-Some.field-0-is at c.in-Ok-Some.ensures.job in
    same_worked _ (job_of c.args.words.now) (g.F.Store.files c.args.store.now)
    (g.I.Source.remaining c.args.input.now) _ _ _ is c.run_job.ensures.work

pub returns-in-Ok-None-clause-work : goal.returns-in-Ok-None-clause-work
unfolding course_of
returns-in-Ok-None-clause-work g c =
    let none : None ≡ job_of c.args.words.now = rw c.in-Ok-None.field-0-is at c.in-Ok-None.ensures.job in
    no_job_worked (job_of c.args.words.now) _ _ _ none

pub returns-in-Ok-None-clause-blamed : goal.returns-in-Ok-None-clause-blamed
returns-in-Ok-None-clause-blamed g c =
    let none : None ≡ job_of c.args.words.now = rw c.in-Ok-None.field-0-is at c.in-Ok-None.ensures.job in
    no_job_blamed (job_of c.args.words.now) _ none

pub returns-in-Ok-None-clause-told : goal.returns-in-Ok-None-clause-told
returns-in-Ok-None-clause-told g c = none_grown _ _ refl

pub returns-in-Err-clause-work : goal.returns-in-Err-clause-work
returns-in-Err-clause-work g c = λ course is. memory_worked course _

pub returns-in-Err-clause-blamed : goal.returns-in-Err-clause-blamed
returns-in-Err-clause-blamed g c = memory_blamed (job_of c.args.words.now) _

pub returns-in-Err-clause-told : goal.returns-in-Err-clause-told
returns-in-Err-clause-told g c = none_grown _ _ refl

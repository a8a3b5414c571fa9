-- How runs end in which no count of faults rose.
use Rattle.bridge_courses.specs.declared.status.Verdict.TheVariants as verdict
use Rattle.bridge_courses.specs.declared.status.Status.TheVariants as status
use Rattle.bridge_courses.specs.declared.ending.Ending.TheVariants as ending
use Rattle.bridge_io.specs.declared.outside.Store.{Ghosts as Store}
use Rattle.std.proofs.Common.{◌≡◌, ◌⊎◌, ℕ, List, Option, Some, inl, inr}
use Rattle.bridge_io.specs.{Fault.Rose, Outside.{Appends, Files}}
use Rattle.bridge_courses.specs.{Executions.{TellsAs, line_of, status_of}, declared.{ending.Ending.Ending, status.Status.Status}}
use Rattle.publish_core.specs.Laws.{CalmRunsAreDecided, EndsCalmly}
use Rattle.publish_core.specs.Runs.{IsCaused, IsEnding}
use Rattle.publish_core.specs.declared.job.PublishJob.{PublishJob}

-- the ending's own status and line, or memory was wanting
abbrev pub IsTold : Ending → Status → (report report' : Option (List ℕ)) → Type 0
IsTold how end report report' = ((end ≡ status_of how) × Appends (line_of how) report report') ⊎ (end ≡ status.Memory)

-- so it is told where the report's sink didn't fail
pub told_calmly : (how : Ending) (end : Status) (f f' : ℕ) (r r' : Option (List ℕ)) → TellsAs how end f f' r r' → (Rose f f' → ⊥)
    → IsTold how end r r'
told_calmly how end f f' r r' (inl told) calm = inl told
told_calmly how end f f' r r' (inr (inl failed)) calm = absurd (calm failed.1)
told_calmly how end f f' r r' (inr (inr wants)) calm = inr wants.0

-- the ending's own status, or memory was wanting
told_end : (how : Ending) (end : Status) (r r' : Option (List ℕ)) → IsTold how end r r' → (end ≡ status_of how) ⊎ (end ≡ status.Memory)
told_end how end r r' (inl told) = inl told.0
told_end how end r r' (inr wants) = inr wants

ends_calmly : (job : PublishJob) (how : Ending) (end : Status) (before after : Option Files) (r r' w w' : ℕ)
    → IsEnding (Some job) how before after → IsCaused how r r' w w' → (Rose r r' → ⊥) → (Rose w w' → ⊥)
    → (end ≡ status_of how) ⊎ (end ≡ status.Memory) → EndsCalmly job end before after
ends_calmly job how end before after r r' w w' ends caused reads writes (inr wants) = inr (inr wants)
ends_calmly job (ending.Ended verdict.Done line) end before after r r' w w' ends caused reads writes (inl is) =
    inl (is, (λ files told. let d = ends files told in (d.0, (d.1.0, d.1.1.1))))
ends_calmly job (ending.Ended verdict.Refused line) end before after r r' w w' ends caused reads writes (inl is) =
    inr (inl (is, ((λ files told. let n = ends.0 files told in (n.0, (n.1.0, tt))), ends.1)))
ends_calmly job ending.ReadFault end before after r r' w w' ends caused reads writes (inl is) = absurd (reads caused)
ends_calmly job ending.WriteFault end before after r r' w w' ends caused reads writes (inl is) = absurd (writes caused)
ends_calmly job ending.Memory end before after r r' w w' ends caused reads writes (inl is) = inr (inr is)
ends_calmly job other end before after r r' w w' ends caused reads writes (inl is) = absurd ends

pub calm_runs : {F : Type 0} (store : Store F) → CalmRunsAreDecided store
calm_runs store job end before after faults faults' report report' run calm =
    ends_calmly job run.how end (store.files before) (store.files after) (store.read_faults before) (store.read_faults after)
    (store.write_faults before) (store.write_faults after) run.leaves run.caused calm.reads calm.writes
    (told_end run.how end report report' (told_calmly run.how end faults faults' report report' run.told calm.report))

-- A run of a job that is done, run again.
use Rattle.publish_core.specs.declared.refusal.Refused.TheVariants as refused
use Rattle.bridge_courses.specs.declared.status.Verdict.TheVariants as verdict
use Rattle.bridge_courses.specs.declared.status.Status.TheVariants as status
use Rattle.bridge_courses.specs.declared.ending.Ending.TheVariants as ending
use Rattle.bridge_io.specs.declared.outside.Store.{Ghosts as Store}
use Rattle.std.proofs.Common.{◌≡◌, ◌⊎◌, ℕ, Bool, true, false, List, [], ◌++◌, codes, refl, sym, ◌∙◌, ap, subst, arith}
use Rattle.std.proofs.Common.{Option, Some, None, Result, Ok, Err, inl, inr}
use Rattle.std.specs.{Prelude.if◌then◌else◌, Option.option_map}
use Rattle.bridge_io.specs.{Fault.Rose, Outside.{Appends, Changes, Files}}
use Rattle.bridge_courses.specs.Executions.{TellsAs, status_of}
use Rattle.bridge_courses.specs.declared.{ending.Ending.Ending, status.Status.Status}
use Rattle.publish_core.specs.Decisions.{all_ended, decision_of}
use Rattle.publish_core.specs.Laws.{EndsUnchanged, FirstAgainIsUnchanged, FirstFoldersAreRead, JobsAreProper}
use Rattle.publish_core.specs.Laws.{PublicationsAgainAreUnchanged, RunsAgainChangeNothing, ServedFoldersAreRead}
use Rattle.publish_core.specs.{Names.{master_file}, Placed.{AreCut, all_placed}}
use Rattle.publish_core.specs.{Refusals.{Named, line_of}, Runs.{Decides, IsCaused, IsEnding, IsPlaced}}
use Rattle.publish_core.specs.declared.{decision.{Decision.Decision}, job.PublishJob.PublishJob, side.Side.Side}
use Rattle.publish_core.proofs.{Calm.{IsTold, told_calmly}, Still.{DecidesNothing, nothing_decided}}

-- ---- the first run

-- a run that is done told so
told_done : (how : Ending) (end : Status) (f f' : ℕ) (r r' : Option (List ℕ)) → end ≡ status.Done → TellsAs how end f f' r r'
    → status.Done ≡ status_of how
told_done how end f f' r r' done (inl told) = sym done ∙ told.0
told_done (ending.Ended verdict.Done line) end f f' r r' done (inr (inl failed)) = refl
told_done (ending.Ended verdict.Refused line) end f f' r r' done (inr (inl failed)) = sym done ∙ failed.0
told_done (ending.Ended verdict.Words line) end f f' r r' done (inr (inl failed)) = sym done ∙ failed.0
told_done (ending.Ended verdict.Differ line) end f f' r r' done (inr (inl failed)) = sym done ∙ failed.0
told_done ending.Words end f f' r r' done (inr (inl failed)) = sym done ∙ failed.0
told_done ending.ReadFault end f f' r r' done (inr (inl failed)) = sym done ∙ failed.0
told_done ending.WriteFault end f f' r r' done (inr (inl failed)) = sym done ∙ failed.0
told_done ending.Memory end f f' r r' done (inr (inl failed)) = sym done ∙ failed.0
told_done (ending.Cut fail) end f f' r r' done (inr (inl failed)) = sym done ∙ failed.0
told_done how end f f' r r' done (inr (inr wants)) = (let never : status.Done ≡ status.Memory = sym done ∙ wants.0 in absurd (cc))

-- a run of a job that is done wrote what was decided
placed_done : (job : PublishJob) (how : Ending) (before after : Option Files) → status.Done ≡ status_of how
    → IsEnding (Some job) how before after → Decides job before (IsPlaced job before after)
placed_done job (ending.Ended verdict.Done line) before after is ends =
    (λ files told. let d = ends files told in (d.0, (d.1.0, d.1.1.1)))
placed_done job (ending.Ended verdict.Refused line) before after is ends = absurd (cc)
placed_done job (ending.Ended verdict.Words line) before after is ends = absurd ends
placed_done job (ending.Ended verdict.Differ line) before after is ends = absurd ends
placed_done job ending.ReadFault before after is ends = absurd (cc)
placed_done job ending.WriteFault before after is ends = absurd (cc)
placed_done job ending.Memory before after is ends = absurd (cc)
placed_done job other before after is ends = absurd ends

-- ---- what is decided again

abbrev nothing : Decision
nothing = record { files = []; line = codes "unchanged\n" }

abbrev decided_by : Side → (ended : Bool) → Result Decision Named
decided_by new ended = if ended then Err (new.file, refused.Ended) else Ok nothing

none_decided : (new : Side) (ended : Bool) (d : Decision) → decided_by new ended ≡ Ok d → (ended ≡ false) × (d ≡ nothing)
none_decided new true d is = absurd (cc)
none_decided new false d is = (refl, cc)

none_refused : (new : Side) (ended : Bool) (n : Named) → decided_by new ended ≡ Err n → (ended ≡ true) × (n ≡ (new.file, refused.Ended))
none_refused new true n is = (refl, cc)
none_refused new false n is = absurd (cc)

-- ---- what is left again

none_placed : (pending : List ℕ) (before after : Option Files) → Changes (all_placed pending []) before after → after ≡ before
none_placed pending None after is = is
none_placed pending (Some files) after is = is

none_cut : (pending : List ℕ) (before after : Option Files) → AreCut pending [] before after → ⊥
none_cut pending before after cut = omega (arith, cut.within)

-- no file is changed, and the run ends as where nothing is new, or out of memory
record EndsStill (job : PublishJob) (ended : Bool) (end : Status) (before after : Option Files) (report report' : Option (List ℕ))
    : Type 0 where
  kept : after ≡ before
  ends : EndsUnchanged job ended end report report' ⊎ (end ≡ status.Memory)

ends_done : (job : PublishJob) (ended : Bool) (end : Status) (line : List ℕ) (report report' : Option (List ℕ)) → ended ≡ false
    → line ≡ codes "unchanged\n" → IsTold (ending.Ended verdict.Done line) end report report'
    → EndsUnchanged job ended end report report' ⊎ (end ≡ status.Memory)
ends_done job ended end line report report' going line_is (inl is) = inl (subst (λ (b : Bool). EndsUnchanged job b end report report')
    (sym going) (is.0, subst (λ (l : List ℕ). Appends l report report') line_is is.1))
ends_done job ended end line report report' going line_is (inr wants) = inr wants

ends_refused : (job : PublishJob) (ended : Bool) (end : Status) (line : List ℕ) (report report' : Option (List ℕ)) → ended ≡ true
    → line ≡ line_of (job.new ++ codes "/" ++ master_file, refused.Ended) → IsTold (ending.Ended verdict.Refused line) end report report'
    → EndsUnchanged job ended end report report' ⊎ (end ≡ status.Memory)
ends_refused job ended end line report report' all line_is (inl is) = inl (subst (λ (b : Bool). EndsUnchanged job b end report report')
    (sym all) (is.0, subst (λ (l : List ℕ). Appends l report report') line_is is.1))
ends_refused job ended end line report report' all line_is (inr wants) = inr wants

wants_memory : (end : Status) (report report' : Option (List ℕ)) → IsTold ending.Memory end report report' → end ≡ status.Memory
wants_memory end report report' (inl is) = is.0
wants_memory end report report' (inr wants) = wants

module _ (job : PublishJob) (files : Files) (still : DecidesNothing job files) (before after : Option Files)
    (before_is : before ≡ Some files) where
  nothing_is : (d : Decision) → decision_of job files ≡ Ok d → (all_ended still.served.tracks ≡ false) × (d ≡ nothing)
  nothing_is d is = none_decided still.new (all_ended still.served.tracks) d (sym still.is ∙ is)

  memory_left : IsEnding (Some job) ending.Memory before after → after ≡ before
  memory_left (inl kept) = kept
  memory_left (inr cut) =
      let d = cut files before_is in
      absurd (none_cut d.1.1.0 before after
      (subst (λ (e : Decision). AreCut d.1.1.0 e.files before after) (nothing_is d.0 d.1.0).1 d.1.1.1.1))

  module _ (end : Status) (report report' : Option (List ℕ)) where
    done_still : (line : List ℕ) → IsEnding (Some job) (ending.Ended verdict.Done line) before after
        → IsTold (ending.Ended verdict.Done line) end report report'
        → EndsStill job (all_ended still.served.tracks) end before after report report'
    done_still line ends told =
        let d = ends files before_is in
        let none = nothing_is d.0 d.1.0 in
        record {
          kept = none_placed d.1.1.1.0 before after
              (subst (λ (e : Decision). Changes (all_placed d.1.1.1.0 e.files) before after) none.1 d.1.1.1.1.1);
          ends = ends_done job (all_ended still.served.tracks) end line report report' none.0
              (d.1.1.0 ∙ ap (λ (e : Decision). e.line) none.1) told;
        }

    refused_still : (line : List ℕ) → IsEnding (Some job) (ending.Ended verdict.Refused line) before after
        → IsTold (ending.Ended verdict.Refused line) end report report'
        → EndsStill job (all_ended still.served.tracks) end before after report report'
    refused_still line ends told =
        let n = ends.0 files before_is in
        let refusal = none_refused still.new (all_ended still.served.tracks) n.0 (sym still.is ∙ n.1.0) in
        record {
          kept = ends.1;
          ends = ends_refused job (all_ended still.served.tracks) end line report report' refusal.0
              (n.1.1 ∙ ap line_of refusal.1 ∙ ap (λ (file : List ℕ). line_of (file, refused.Ended)) still.file_is) told;
        }

    ends_still : (how : Ending) (r r' w w' : ℕ) → IsEnding (Some job) how before after → IsCaused how r r' w w' → (Rose r r' → ⊥)
        → (Rose w w' → ⊥) → IsTold how end report report'
        → EndsStill job (all_ended still.served.tracks) end before after report report'
    ends_still (ending.Ended verdict.Done line) r r' w w' ends caused reads writes told = done_still line ends told
    ends_still (ending.Ended verdict.Refused line) r r' w w' ends caused reads writes told = refused_still line ends told
    ends_still ending.ReadFault r r' w w' ends caused reads writes told = absurd (reads caused)
    ends_still ending.WriteFault r r' w w' ends caused reads writes told = absurd (writes caused)
    ends_still ending.Memory r r' w w' ends caused reads writes told =
        record { kept = memory_left ends; ends = inr (wants_memory end report report' told) }
    ends_still other r r' w w' ends caused reads writes told = absurd ends

-- ---- both runs

pub twice : {F : Type 0} (store : Store F) → JobsAreProper → ServedFoldersAreRead → PublicationsAgainAreUnchanged → FirstFoldersAreRead
    → FirstAgainIsUnchanged → RunsAgainChangeNothing store
twice store are_proper reads repeats reads_first repeats_first words job words_are runs =
    let first = runs.first in
    let again = runs.again in
    let done = told_done first.is.how first.end first.faults_before first.faults_after first.report_before first.report_after runs.done
    first.is.told in
    let d = placed_done job first.is.how (store.files first.before) (store.files first.after) done first.is.leaves runs.files
    runs.modelled in
    let pending = d.1.1.0 in
    let left = all_placed pending d.0.files runs.files in
    let still = nothing_decided reads repeats reads_first repeats_first job runs.files d.0 pending (are_proper words job words_are)
    d.1.1.1.0 d.1.0 in
    let before : store.files again.before ≡ Some left = runs.begins ∙ d.1.1.1.1
    ∙ ap (option_map (all_placed pending d.0.files)) runs.modelled in
    let told = told_calmly again.is.how again.end again.faults_before again.faults_after again.report_before again.report_after
    again.is.told runs.calm.report in
    let ends = ends_still job left still (store.files again.before) (store.files again.after) before again.end again.report_before
    again.report_after again.is.how (store.read_faults again.before) (store.read_faults again.after) (store.write_faults again.before)
    (store.write_faults again.after) again.is.leaves again.is.caused runs.calm.reads runs.calm.writes told in
    record {
      files = left;
      before = before;
      after = ends.kept ∙ before;
      served = still.served;
      served_is = still.served_is;
      ends = ends.ends;
    }

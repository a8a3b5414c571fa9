-- After a publication nothing new is decided, whether something was served before or not.
use Rattle.publish_core.specs.declared.refusal.Refused.TheVariants as refused
use Rattle.std.proofs.Common.{◌≡◌, ℕ, List, ◌++◌, codes, Option, Some, None, Ok, Err, refl, ◌∙◌, ap, inl, inr}
use Rattle.std.proofs.lemmas.{Bool.cases_Bool}
use Rattle.std.specs.Prelude.{if◌then◌else◌}
use Rattle.bridge_io.specs.{Answer.and_then, Outside.Files}
use Rattle.bridge_io.proofs.AndThen.{steps_of}
use Rattle.publish_law.specs.declared.plan.Publication.{Publication}
use Rattle.publish_core.specs.Decisions.{decision_of, decision_with, first_of, is_there, next_of}
use Rattle.publish_core.specs.Laws.{Decided, DecidedFirst, FirstAgainIsUnchanged, FirstFoldersAreRead, IsProper}
use Rattle.publish_core.specs.Laws.{PublicationsAgainAreUnchanged, ServedFoldersAreRead, first_side, nothing_new, served_after, side_after}
use Rattle.publish_core.specs.{Names.{master_file, name_in, pending_file}, Placed.all_placed, Sides.side_at, Taken.is_taken}
use Rattle.publish_core.specs.declared.{decision.Decision.Decision, job.PublishJob.PublishJob, side.Side.Side}
use Rattle.publish_core.proofs.{Folders.same_publication, Going.{decided_next, if_true, new_taken, parts_of}, Read.reading_of, Served.named}

-- the name of a folder's master
master_name : (folder : List ℕ) (files : Files) (side : Side) (file : Option (List ℕ)) → name_in folder master_file ≡ file
    → side_at folder files file ≡ Ok side → side.file ≡ folder ++ codes "/" ++ master_file
master_name folder files side None of is = absurd (cc)
master_name folder files side (Some file) of is = (reading_of folder file files side is).file_is ∙ named folder master_file file of

-- the served folder is read, and no file is written, or the new master is refused where all served lists are ended
pub record DecidesNothing (job : PublishJob) (files : Files) : Type 0 where
  pub new : Side
  pub file_is : new.file ≡ job.new ++ codes "/" ++ master_file
  pub served : Side
  pub served_is : side_at job.served files (name_in job.served master_file) ≡ Ok served
  pub is : decision_of job files ≡ nothing_new new served.tracks

module _ (reads : ServedFoldersAreRead) (repeats : PublicationsAgainAreUnchanged) where
  next_still : (p : Decided) (pending : List ℕ) → IsProper p.job → name_in p.job.served pending_file ≡ Some pending
      → DecidesNothing p.job (all_placed pending p.decision.files p.files)
  next_still p pending proper pending_is =
      let read = reads p pending pending_is in
      let again = repeats p pending proper pending_is in
      let parts = parts_of p (decided_next p) in
      let same : again.accepted.publication ≡ parts.publication =
      same_publication p parts again.accepted again.options again.tracks in
      let other : read.accepted.publication ≡ parts.publication = same_publication p parts read.accepted read.options read.tracks in
      record {
        new = p.new;
        file_is = master_name p.job.new p.files p.new (name_in p.job.new master_file) refl p.new_is;
        served = side_after p.new p.served parts.publication.changes;
        served_is = read.side ∙ ap (λ (q : Publication). Ok (side_after p.new p.served q.changes)) other;
        is = again.again ∙ ap (λ (q : Publication). nothing_new p.new (served_after p.served.tracks q.changes)) same;
      }

module _ (reads : FirstFoldersAreRead) (repeats : FirstAgainIsUnchanged) where
  first_still : (p : DecidedFirst) (pending : List ℕ) → IsProper p.job → name_in p.job.served pending_file ≡ Some pending
      → DecidesNothing p.job (all_placed pending p.decision.files p.files)
  first_still p pending proper pending_is = record {
    new = p.new;
    file_is = master_name p.job.new p.files p.new (name_in p.job.new master_file) refl p.new_is;
    served = first_side p.job p.new;
    served_is = reads p pending proper.target pending_is;
    is = repeats p pending proper pending_is;
  }

module _ (reads : ServedFoldersAreRead) (repeats : PublicationsAgainAreUnchanged) (reads_first : FirstFoldersAreRead)
    (repeats_first : FirstAgainIsUnchanged) where
  pub nothing_decided : (job : PublishJob) (files : Files) (decision : Decision) (pending : List ℕ) → IsProper job
      → name_in job.served pending_file ≡ Some pending → decision_of job files ≡ Ok decision
      → DecidesNothing job (all_placed pending decision.files files)
  unfolding decision_of
  nothing_decided job files decision pending proper pending_is is =
      let master = name_in job.served master_file in
      let new = steps_of (side_at job.new files (name_in job.new master_file))
      (λ new. if is_taken job new then decision_with job files new else Err (new.file, refused.Form)) decision is in
      let whole = (new_taken job files new.value decision new.first is).value in
      elim (cases_Bool (is_there files master)) [
        | inl there ↦
            let read = and_then (side_at job.served files master) (next_of job new.value) in
            let served = steps_of (side_at job.served files master) (next_of job new.value) decision
            (if_true (is_there files master) read (first_of job new.value) (Ok decision) there whole) in
            next_still reads repeats (record {
              job = job;
              files = files;
              new = new.value;
              served = served.value;
              decision = decision;
              new_is = new.first;
              there = there;
              served_is = served.first;
              is = is;
            }) pending proper pending_is
        | inr none ↦ first_still reads_first repeats_first (record {
          job = job;
          files = files;
          new = new.value;
          decision = decision;
          new_is = new.first;
          none_there = none;
          is = is;
        }) pending proper pending_is
      ]

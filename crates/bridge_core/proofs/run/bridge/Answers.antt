use Rattle.bridge_core.proofs.run.bridge.Goals as goal
use Rattle.std.proofs.Common.{refl, inl, inr}
use Rattle.bridge_courses.proofs.{ExecutionLaws.is_complete, Statuses.{rose_first, rose_later}}
use Rattle.bridge_steps.proofs.Works.{read_fault_told, words_told, write_fault_told}
use Rattle.bridge_core.proofs.Blamed.{told_earlier}

pub returns-clause-run : goal.returns-clause-run
returns-clause-run g c = λ course is. let work = c.work-ending.ensures.work course is in record {
  how = c.work-ending.result;
  mid = _;
  works = work.works;
  never_falls = work.never_falls;
  tells = record { same = refl; told_as = c.tell.ensures.told; never_falls = c.tell.ensures.never_falls };
}

pub returns-clause-complete : goal.returns-clause-complete
returns-clause-complete g c = λ course is calm. is_complete course c.tell.result _ _ (returns-clause-run g c course is) calm

pub returns-clause-words : goal.returns-clause-words
returns-clause-words g c =
    λ is. c.work-ending.ensures.blamed.words (words_told c.work-ending.result c.tell.result _ _ _ _ c.tell.ensures.told is)

pub returns-clause-read_fault : goal.returns-clause-read_fault
returns-clause-read_fault g c =
    λ is. c.work-ending.ensures.blamed.read_fault (read_fault_told c.work-ending.result c.tell.result _ _ _ _ c.tell.ensures.told is)

pub returns-clause-write_fault : goal.returns-clause-write_fault
returns-clause-write_fault g c =
    let blamed = c.work-ending.ensures.blamed in
    λ is. elim (write_fault_told c.work-ending.result c.tell.result _ _ _ _ c.tell.ensures.told is blamed.write_fault) [
      | inl before ↦ elim before [
        | inl writing ↦ inl writing
        | inr telling ↦ inr (rose_first _ _ _ telling c.tell.ensures.never_falls)
      ]
      | inr telling ↦ inr (rose_later _ _ _ blamed.report telling)
    ]

pub returns-clause-told : goal.returns-clause-told
returns-clause-told g c = let work = c.work-ending.ensures in record {
  how = c.work-ending.result;
  lines = work.told.0;
  mid = _;
  before = work.told.1;
  tells = told_earlier c.work-ending.result c.tell.result _ _ _ _ _ work.blamed.report c.tell.ensures.told;
}

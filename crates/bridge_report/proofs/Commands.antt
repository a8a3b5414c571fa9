-- Commands that read all before they write.
use Rattle.std.proofs.Common.{◌≡◌, ℕ, zero, suc, [], ◌∷◌, ◌++◌, slice_get, Option, None, Some, ap}
use Rattle.bridge_io.specs.{Outside.{Files, Changes}, InOrder.put_all}
use Rattle.bridge_courses.specs.Courses.{files_to, last_step}
use Rattle.bridge_courses.proofs.ExecutionLaws.{read_fault_keeps_files}
use Rattle.bridge_report.specs.{Outcomes.{Ends, Writes, course_by}, Laws.{CommandsReadFirst, ReadFaultOfCommandsKeepsFiles}}

none_changed : (before after : Option Files) → Changes (put_all []) before after → after ≡ before
none_changed None after changes = changes
none_changed (Some files) after changes = changes

pub commands_read_first : CommandsReadFirst
commands_read_first (Ends v l reads counts) before mid step reaches is = go reaches.n reaches.whole.files
  where
    go : (n : ℕ) → Changes (put_all (files_to n (course_by (Ends v l reads counts)))) before.files mid.files → mid.files ≡ before.files
    go zero changes = none_changed before.files mid.files changes
    go (suc n) changes = none_changed before.files mid.files changes
commands_read_first (Writes files l reads) before mid step reaches is = go reaches.n reaches.next reaches.whole.files
  where
    go : (n : ℕ) → slice_get ((course_by (Writes files l reads)).steps ++ last_step (course_by (Writes files l reads)).end ∷ []) n
        ≡ Some step
        → Changes (put_all (files_to n (course_by (Writes files l reads)))) before.files mid.files → mid.files ≡ before.files
    go zero next changes = none_changed before.files mid.files changes
    go (suc zero) next changes = let same : last_step (course_by (Writes files l reads)).end ≡ step = cc in
        absurd (let off = ap (λ s. s.reads) same in cc)
    go (suc (suc n)) next changes = absurd (cc)

pub read_fault_keeps : ReadFaultOfCommandsKeepsFiles
read_fault_keeps outcome before after run = read_fault_keeps_files (course_by outcome) before after (commands_read_first outcome) run

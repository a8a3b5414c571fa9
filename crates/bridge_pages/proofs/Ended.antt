-- What a run leaves that can't fail but for want of memory.
use Rattle.bridge_courses.specs.declared.status.Status.TheVariants as status
use Rattle.bridge_courses.specs.declared.status.Verdict.TheVariants as verdict
use Rattle.std.proofs.Common.{◌≡◌, ◌⊎◌, ℕ, List, [], Option, Some, None, IsSome, inl, inr, refl, ap, sym, subst, ◌∙◌, arith}
use Rattle.bridge_io.specs.{Fault.Rose, Outside.{Files, Changes, Appends}, InOrder.put_all}
use Rattle.bridge_courses.specs.declared.status.{Status.Status, Verdict.Verdict}
use Rattle.bridge_courses.specs.Courses.{Course, World, files_of, report_of}
use Rattle.bridge_courses.specs.Executions.{IsExecution, status_by}
use Rattle.bridge_courses.specs.Laws.{VerdictKeepsSteps, VerdictTellsSteps}
use Rattle.page_server.specs.Pages.{Page}
use Rattle.bridge_pages.specs.Runs.{page_left, is_done, is_done_by, page_of_course, page_of_known}

pub never_rose : Rose 0 0 → ⊥
never_rose (inl less) = absurd (omega arith)
never_rose (inr full) = absurd (omega arith)

-- a run began with told files and an empty report, and left these
pub record Leaves (before after : World) (first last : Files) (report : List ℕ) : Type 0 where
  pub first_files : before.files ≡ Some first
  pub last_files : after.files ≡ Some last
  pub empty : before.report ≡ Some []
  pub told : after.report ≡ Some report
  pub calm : Rose before.report_faults after.report_faults → ⊥

abbrev value_or : {X : Type 0} → X → Option X → X
value_or x (Some y) = y
value_or x None = x

some_is : {X : Type 0} (x y : X) → Some x ≡ Some y → x ≡ y
some_is x y same = ap (value_or x) same

kept_files : (course : Course) (before after : World) (first last : Files) (report : List ℕ) → Leaves before after first last report
    → Changes (put_all (files_of course)) before.files after.files → last ≡ put_all (files_of course) first
kept_files course before after first last report left changes =
    some_is last (put_all (files_of course) first) (sym left.last_files ∙ rw left.first_files at changes)

kept_report : (course : Course) (before after : World) (first last : Files) (report : List ℕ) → Leaves before after first last report
    → Appends (report_of course) before.report after.report → report ≡ report_of course
kept_report course before after first last report left appends =
    some_is report (report_of course) (sym left.told ∙ rw left.empty at appends)

by_verdict : (v : Verdict) → is_done_by (status_by v) ≡ is_done v
by_verdict verdict.Done = refl
by_verdict verdict.Refused = refl
by_verdict verdict.Words = refl
by_verdict verdict.Differ = refl

-- where memory isn't wanting, what a run left has the pages of its course
pub left_page : VerdictKeepsSteps → VerdictTellsSteps → (course : Course) (end : Status) (before after : World) (first last : Files)
    (report file : List ℕ) → Leaves before after first last report → IsExecution course end before after
    → ((end ≡ status_by course.end.verdict) ⊎ (end ≡ status.Memory)) → (end ≡ status.Memory → ⊥)
    → page_left (is_done_by end) last report file ≡ page_of_course course first file
left_page keeps tells course end before after first last report file left ran (inr wanting) enough = absurd (enough wanting)
left_page keeps tells course end before after first last report file left ran (inl is) enough =
    let v = course.end.verdict in
    let run = subst (λ s. IsExecution course s before after) is ran in
    let files = kept_files course before after first last report left (keeps course v before after run).1 in
    let told = kept_report course before after first last report left (tells course v before after run left.calm) in
    rw (is, by_verdict v, files, told) refl

-- a page of each course that may be known is one of the course that is
pub known_page : (known : Option Course) (page : Page) (files : Files) (file : List ℕ) → IsSome known
    → ((course : Course) → known ≡ Some course → page ≡ page_of_course course files file) → page ≡ page_of_known known files file
known_page (Some course) page files file is each = each course refl
known_page None page files file is each = cc

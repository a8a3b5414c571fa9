-- The laws of runs, step by step.
use Rattle.bridge_io.specs.declared.outside.Fail.TheVariants as fail
use Rattle.bridge_courses.specs.declared.ending.Ending.TheVariants as ending
use Rattle.bridge_courses.specs.declared.status.Status.TheVariants as status
use Rattle.bridge_courses.specs.declared.status.Verdict.TheVariants as verdict
use Rattle.std.proofs.Common.{◌≡◌, ◌⊎◌, ℕ, zero, suc, ◌+◌, ◌≤◌, IsTrue, List, [], ◌∷◌, ◌++◌, take, drop, length, slice_get, flat_map}
use Rattle.std.proofs.{Common.{Option, None, Some, inl, inr, refl, sym, ap, ◌∙◌, subst, arith, append_assoc}, Math.Seq.take-append_seam}
use Rattle.std.proofs.{lemmas.List.{append-nil, take-append-drop}, lemmas.List.Sums.sum_by-cons}
use Rattle.std.specs.Prelude.{sum_by}
use Rattle.bridge_io.specs.{Fault.Rose, Outside.{Files, Changes, Appends, AppendsFront}, InOrder.{put_all, AreBegun}}
use Rattle.bridge_courses.specs.{declared.ending.Ending.Ending, declared.status.Status.Status, declared.status.Verdict.Verdict}
use Rattle.bridge_courses.specs.{Courses.{Step, Course, World, Reaches, lines_to, report_of, last_step}, Executions.{Works, Finishes}}
use Rattle.bridge_courses.specs.{Executions.{FailsWriting, FailsTelling, status_of, status_untold, line_of, words_line}, Laws.LeavesSteps}
use Rattle.bridge_courses.specs.Laws.{VerdictTellsSteps, ReadFaultTellsSteps, WriteFaultTellsSteps, ExecutionLeavesSteps}
use Rattle.bridge_courses.specs.Laws.{ReadFaultLeavesSteps, MadeSteps, ExecutionMakesSteps, TellsFronts, ExecutionTellsFronts, fault_line}
use Rattle.bridge_courses.proofs.{Statuses.{fails_reading, no_fault, rose_first, rose_later}, ExecutionLaws.{files_told, reading}}
use Rattle.bridge_courses.proofs.{ExecutionLaws.report_of_whole, Stepping.{appends_both, none_told}}

-- ---- the files

pub end_next : (steps : List Step) (last : Step) → slice_get (steps ++ last ∷ []) (length steps) ≡ Some last
end_next [] last = refl
end_next (step ∷ steps) last = end_next steps last

abbrev pub finished_leaves : (course : Course) (v : Verdict) (line : List ℕ) (before after : World) → Finishes course v line before after
    → LeavesSteps course before.files after.files
finished_leaves course v line before after works = record {
  n = length course.steps;
  mid = after.files;
  done = works.whole.files;
  step = last_step course.end;
  next = end_next course.steps (last_step course.end);
  left = inl refl;
}

abbrev pub reached_leaves : (course : Course) (before mid : World) (after : Option Files) (step : Step) → Reaches course before mid step
    → ((after ≡ mid.files) ⊎ (AreBegun step.files mid.files after ⊎ Changes (put_all step.files) mid.files after))
    → LeavesSteps course before.files after
reached_leaves course before mid after step reaches left =
    record { n = reaches.n; mid = mid.files; done = reaches.whole.files; step = step; next = reaches.next; left = left }

telling_leaves : (course : Course) (before after : World) → FailsTelling course before after → LeavesSteps course before.files after.files
telling_leaves course before after works =
    reached_leaves course before works.mid after.files works.step works.reaches (inr (inr works.files))

works_leave : (course : Course) (told : Ending) (before after : World) → Works course told before after
    → LeavesSteps course before.files after.files
works_leave course (ending.Ended v line) before after works = finished_leaves course v line before after works
works_leave course ending.Words before after works = finished_leaves course _ _ before after works
works_leave course ending.ReadFault before after works =
    reached_leaves course before works.mid after.files works.step works.reaches (inl works.files)
works_leave course ending.WriteFault before after works =
    reached_leaves course before works.mid after.files works.step works.reaches (inr (inl works.files))
works_leave course ending.Memory before after works =
    reached_leaves course before works.mid after.files works.step works.reaches
    (elim works.left [ inl none ↦ inl none.0 | inr some ↦ inr some.0 ])
works_leave course (ending.Cut fail.Failed) before after works = telling_leaves course before after works.0
works_leave course (ending.Cut fail.Memory) before after works = telling_leaves course before after works

pub run_leaves : ExecutionLeavesSteps
run_leaves course end before after run =
    subst (λ files. LeavesSteps course before.files files) (sym (files_told run.how end run.mid after run.tells))
    (works_leave course run.how before run.mid run.works)

pub read_fault_leaves : ReadFaultLeavesSteps
read_fault_leaves course before after run = let fails = reading course before after run in
    (fails.reaches.n, files_told run.how status.ReadFault run.mid after run.tells ∙ fails.files ∙ fails.reaches.whole.files)

-- ---- what is told

pub verdict_tells : VerdictTellsSteps
verdict_tells course v before after run calm = elim run.tells.told_as [
  | inl told ↦ report_of_whole course v before after run told.1
  | inr (inl told) ↦ absurd (calm (rose_later before.report_faults run.mid.report_faults after.report_faults run.never_falls.report told.1))
  | inr (inr told) ↦ absurd (no_fault v status.Memory refl told.0)
]

reading_line : (told : Ending) → status.ReadFault ≡ status_of told → line_of told ≡ line_of ending.ReadFault
reading_line (ending.Ended w line) e = absurd (no_fault w status.ReadFault refl (sym e))
reading_line ending.ReadFault e = refl
reading_line (ending.Cut fail.Failed) e = absurd (cc)
reading_line (ending.Cut fail.Memory) e = absurd (cc)
reading_line told e = absurd (cc)

pub read_fault_tells : ReadFaultTellsSteps
read_fault_tells course before after run calm = elim run.tells.told_as [
  | inl told ↦
      let fails = fails_reading course run.how before run.mid told.0 run.works in
      let so_far : Appends (lines_to fails.reaches.n course) before.report run.mid.report = fails.report ∙ fails.reaches.whole.report in (
        fails.reaches.n,
        appends_both (lines_to fails.reaches.n course) (line_of ending.ReadFault) before.report run.mid.report after.report so_far
            (subst (λ line. Appends line run.mid.report after.report) (reading_line run.how told.0) told.1),
      )
  | inr (inl told) ↦ absurd (calm (rose_later before.report_faults run.mid.report_faults after.report_faults run.never_falls.report told.1))
  | inr (inr told) ↦ absurd (let e = told.0 in cc)
]

-- the work ended where the store failed, or the sink
writing_ends : (course : Course) (told : Ending) (before mid : World) → status.WriteFault ≡ status_of told → Works course told before mid
    → (FailsWriting course before mid × (line_of told ≡ line_of ending.WriteFault)) ⊎ Rose before.report_faults mid.report_faults
writing_ends course (ending.Ended w line) before mid e works = absurd (no_fault w status.WriteFault refl (sym e))
writing_ends course ending.WriteFault before mid e works = inl (works, refl)
writing_ends course (ending.Cut fail.Failed) before mid e works = inr works.1
writing_ends course (ending.Cut fail.Memory) before mid e works = absurd (cc)
writing_ends course told before mid e works = absurd (cc)

pub write_fault_tells : WriteFaultTellsSteps
write_fault_tells course before after run calm = elim run.tells.told_as [
  | inl told ↦ elim (writing_ends course run.how before run.mid told.0 run.works) [
    | inl (fails, line) ↦
        let so_far : Appends (lines_to fails.reaches.n course) before.report run.mid.report = fails.report ∙ fails.reaches.whole.report in (
          fails.reaches.n,
          appends_both (lines_to fails.reaches.n course) (line_of ending.WriteFault) before.report run.mid.report after.report so_far
              (subst (λ line. Appends line run.mid.report after.report) line told.1),
        )
    | inr rose ↦ absurd (calm (rose_first before.report_faults run.mid.report_faults after.report_faults rose run.tells.never_falls))
  ]
  | inr (inl told) ↦ absurd (calm (rose_later before.report_faults run.mid.report_faults after.report_faults run.never_falls.report told.1))
  | inr (inr told) ↦ absurd (let e = told.0 in cc)
]

-- ---- fronts of what is told

-- the lines of some first steps and a front of the next one's are a front of all
front_rest : (steps : List Step) (last : Step) (n k : ℕ) (step : Step) → slice_get (steps ++ last ∷ []) n ≡ Some step
    → (rest : List ℕ) × (flat_map (λ s. s.lines) steps ++ last.lines ≡ (flat_map (λ s. s.lines) (take n steps) ++ take k step.lines)
    ++ rest)
front_rest [] last zero k step is =
    (drop k step.lines, let same : last ≡ step = cc in ap (λ s. s.lines) same ∙ sym (take-append-drop k step.lines))
front_rest [] last (suc n) k step is = absurd (cc)
front_rest (s ∷ steps) last zero k step is = let same : s ≡ step = cc in (
  drop k step.lines ++ (flat_map (λ s. s.lines) steps ++ last.lines),
  append_assoc s.lines (flat_map (λ s. s.lines) steps) last.lines
      ∙ ap (λ one. one ++ (flat_map (λ s. s.lines) steps ++ last.lines)) (ap (λ s. s.lines) same ∙ sym (take-append-drop k step.lines))
      ∙ append_assoc (take k step.lines) (drop k step.lines) (flat_map (λ s. s.lines) steps ++ last.lines),
)
front_rest (s ∷ steps) last (suc n) k step is = let more = front_rest steps last n k step is in (
  more.0,
  append_assoc s.lines (flat_map (λ s. s.lines) steps) last.lines
      ∙ ap (λ all. s.lines ++ all) more.1
      ∙ sym (append_assoc s.lines (flat_map (λ s. s.lines) (take n steps) ++ take k step.lines) more.0)
      ∙ ap (λ all. all ++ more.0) (sym (append_assoc s.lines (flat_map (λ s. s.lines) (take n steps)) (take k step.lines))),
)

-- what a text begins with is a front of it
front_by : (whole front rest : List ℕ) (r r' : Option (List ℕ)) → whole ≡ front ++ rest → Appends front r r' → AppendsFront whole r r'
front_by whole front rest r r' is told =
    (length front, subst (λ one. Appends one r r') (sym (ap (take (length front)) is ∙ take-append_seam front rest)) told)

front_whole : (line : List ℕ) (r r' : Option (List ℕ)) → Appends line r r' → AppendsFront line r r'
front_whole line r r' told = front_by line line [] r r' (sym (append-nil line)) told

front_none : (line : List ℕ) (r : Option (List ℕ)) → AppendsFront line r r
front_none line r = (0, none_told r r refl)

-- after some first steps, a front of the next one's lines is told
front_on : (course : Course) (n k : ℕ) (step : Step) (r r' r'' : Option (List ℕ))
    → slice_get (course.steps ++ last_step course.end ∷ []) n ≡ Some step
    → Appends (lines_to n course) r r' → Appends (take k step.lines) r' r'' → AppendsFront (report_of course) r r''
front_on course n k step r r' r'' next so_far told =
    let rest = front_rest course.steps (last_step course.end) n k step next in
    front_by (report_of course) (lines_to n course ++ take k step.lines) rest.0 r r'' rest.1
    (appends_both (lines_to n course) (take k step.lines) r r' r'' so_far told)

finished_fronts : (course : Course) (v : Verdict) (line : List ℕ) (before mid : World) (r : Option (List ℕ)) (other : List ℕ)
    → Finishes course v line before mid
    → AppendsFront line mid.report r → TellsFronts course other before.report r
finished_fronts course v line before mid r other works told = record {
  mid = r;
  lines =
      front_on course (length course.steps) told.0 (last_step course.end) before.report mid.report r
      (end_next course.steps (last_step course.end))
      works.whole.report (subst (λ l. Appends (take told.0 l) mid.report r) works.lines told.1);
  ended = front_none other r;
}

reached_fronts : (course : Course) (line : List ℕ) (before at mid : World) (step : Step) (r : Option (List ℕ))
    → Reaches course before at step
    → mid.report ≡ at.report → AppendsFront line mid.report r → TellsFronts course line before.report r
reached_fronts course line before at mid step r reaches same told = record {
  mid = mid.report;
  lines =
      front_on course reaches.n 0 step before.report at.report mid.report reaches.next reaches.whole.report
      (none_told at.report mid.report same);
  ended = told;
}

cut_fronts : (course : Course) (line : List ℕ) (before mid : World) (r : Option (List ℕ)) → FailsTelling course before mid → r ≡ mid.report
    → TellsFronts course line before.report r
cut_fronts course line before mid r works same = record {
  mid = mid.report;
  lines =
      front_on course works.reaches.n works.report.0 works.step before.report works.mid.report mid.report works.reaches.next
      works.reaches.whole.report works.report.1;
  ended = subst (λ report. AppendsFront line mid.report report) (sym same) (front_none line mid.report);
}

-- a front of no line is none
none_front : (k : ℕ) (r r' : Option (List ℕ)) → Appends (take k []) r r' → r' ≡ r
none_front zero None r' told = told
none_front (suc k) None r' told = told
none_front zero (Some bytes) r' told = told ∙ ap Some (append-nil bytes)
none_front (suc k) (Some bytes) r' told = told ∙ ap Some (append-nil bytes)

fronts : (course : Course) (told : Ending) (before mid : World) (r : Option (List ℕ)) → Works course told before mid
    → AppendsFront (line_of told) mid.report r
    → TellsFronts course (fault_line (status_of told)) before.report r
fronts course (ending.Ended v line) before mid r works front = finished_fronts course v line before mid r _ works front
fronts course ending.Words before mid r works front = finished_fronts course verdict.Words words_line before mid r _ works front
fronts course ending.ReadFault before mid r works front =
    reached_fronts course _ before works.mid mid works.step r works.reaches works.report front
fronts course ending.WriteFault before mid r works front =
    reached_fronts course _ before works.mid mid works.step r works.reaches works.report front
fronts course ending.Memory before mid r works front =
    reached_fronts course _ before works.mid mid works.step r works.reaches works.report front
fronts course (ending.Cut fail.Failed) before mid r works front =
    cut_fronts course _ before mid r works.0 (none_front front.0 mid.report r front.1)
fronts course (ending.Cut fail.Memory) before mid r works front =
    cut_fronts course _ before mid r works (none_front front.0 mid.report r front.1)

-- where the sink fails at the last line
untold_fronts : (course : Course) (told : Ending) (end : Status) (before mid : World) (r : Option (List ℕ)) → Works course told before mid
    → end ≡ status_untold told
    → AppendsFront (line_of told) mid.report r
    → (by : Status) × ((by ≡ end) ⊎ (end ≡ status.Memory)) × TellsFronts course (fault_line by) before.report r
untold_fronts course (ending.Ended verdict.Done line) end before mid r works is front =
    (end, inl refl, finished_fronts course verdict.Done line before mid r _ works front)
untold_fronts course told end before mid r works is front = (status_of told, inl (sym is), fronts course told before mid r works front)

pub run_tells_fronts : ExecutionTellsFronts
run_tells_fronts course end before after run = elim run.tells.told_as [
  | inl told ↦ (
    status_of run.how,
    inl (sym told.0),
    fronts course run.how before run.mid after.report run.works
        (front_whole (line_of run.how) run.mid.report after.report told.1),
  )
  | inr (inl told) ↦ untold_fronts course run.how end before run.mid after.report run.works told.0 told.2
  | inr (inr told) ↦ (status_of run.how, inr told.0, fronts course run.how before run.mid after.report run.works told.1)
]

-- ---- how many segments were made

sum_next : (f : Step → ℕ) (steps : List Step) (last : Step) (n : ℕ) (step : Step) → slice_get (steps ++ last ∷ []) n ≡ Some step
    → f last ≡ 0
    → sum_by f (take n steps) + f step ≤ sum_by f (take (suc n) steps)
sum_next f [] last zero step is none = let same : last ≡ step = cc in let e = ap f same in omega (arith, e, none)
sum_next f [] last (suc n) step is none = absurd (cc)
sum_next f (s ∷ steps) last zero step is none = let same : s ≡ step = cc in omega (arith, ap f same, sum_by-cons f s (take 0 steps))
sum_next f (s ∷ steps) last (suc n) step is none =
    omega (arith, sum_next f steps last n step is none, sum_by-cons f s (take n steps), sum_by-cons f s (take (suc n) steps))

place_within : (steps : List Step) (last : Step) (n : ℕ) (step : Step) → slice_get (steps ++ last ∷ []) n ≡ Some step → n ≤ length steps
place_within [] last zero step is = omega arith
place_within [] last (suc n) step is = absurd (cc)
place_within (s ∷ steps) last zero step is = omega arith
place_within (s ∷ steps) last (suc n) step is = omega (arith, place_within steps last n step is)

makes_on : (course : Course) (before mid : World) (after : ℕ) (step : Step) → IsTrue course.counts → Reaches course before mid step
    → mid.made ≤ after → after ≤ mid.made + step.most → MadeSteps course before.made after
makes_on course before mid after step counts reaches least most = let so_far = reaches.whole.made counts in record {
  n = reaches.n;
  within = place_within course.steps (last_step course.end) reaches.n step reaches.next;
  least = omega (arith, so_far.0, least);
  most = omega (arith, so_far.1, most, sum_next (λ s. s.most) course.steps (last_step course.end) reaches.n step reaches.next refl);
}

sum_all : (f : Step → ℕ) (steps : List Step) → sum_by f (take (length steps) steps) ≤ sum_by f (take (suc (length steps)) steps)
sum_all f [] = omega arith
sum_all f (s ∷ steps) =
    omega (arith, sum_all f steps, sum_by-cons f s (take (length steps) steps), sum_by-cons f s (take (suc (length steps)) steps))

finished_makes : (course : Course) (v : Verdict) (line : List ℕ) (before after : World) → IsTrue course.counts
    → Finishes course v line before after → MadeSteps course before.made after.made
finished_makes course v line before after counts works = let made = works.whole.made counts in record {
  n = length course.steps;
  within = omega arith;
  least = made.0;
  most = omega (arith, made.1, sum_all (λ s. s.most) course.steps);
}

telling_makes : (course : Course) (before after : World) → IsTrue course.counts → FailsTelling course before after
    → MadeSteps course before.made after.made
telling_makes course before after counts works =
    makes_on course before works.mid after.made works.step counts works.reaches (omega (arith, (works.made counts).0)) (works.made counts).1

works_make : (course : Course) (told : Ending) (before after : World) → IsTrue course.counts → Works course told before after
    → MadeSteps course before.made after.made
works_make course (ending.Ended v line) before after counts works = finished_makes course v line before after counts works
works_make course ending.Words before after counts works = finished_makes course _ _ before after counts works
works_make course ending.ReadFault before after counts works =
    makes_on course before works.mid after.made works.step counts works.reaches (omega (arith, (works.made counts).0))
    (omega (arith, (works.made counts).1))
works_make course ending.WriteFault before after counts works =
    makes_on course before works.mid after.made works.step counts works.reaches (omega (arith, (works.made counts).0)) (works.made counts).1
works_make course ending.Memory before after counts works = elim works.left [
  | inl none ↦ makes_on course before works.mid after.made works.step counts works.reaches (omega (arith, (none.1 counts).0))
      (none.1 counts).1
  | inr some ↦ makes_on course before works.mid after.made works.step counts works.reaches (omega (arith, (some.1 counts).0))
      (some.1 counts).1
]
works_make course (ending.Cut fail.Failed) before after counts works = telling_makes course before after counts works.0
works_make course (ending.Cut fail.Memory) before after counts works = telling_makes course before after counts works

pub run_makes : ExecutionMakesSteps
run_makes course end before after counts run =
    subst (λ made. MadeSteps course before.made made) (sym (ap (λ world. world.made) run.tells.same))
    (works_make course run.how before run.mid counts run.works)

-- A course that is worked off a step at a time.
use Rattle.bridge_io.specs.declared.outside.Fail.TheVariants as fail
use Rattle.bridge_courses.specs.declared.status.Verdict.TheVariants as verdict
use Rattle.bridge_courses.specs.declared.ending.Ending.TheVariants as ending
use Rattle.std.proofs.Common.{◌≡◌, ◌⊎◌, ℕ, suc, IsTrue, List, [], ◌∷◌, ◌++◌, take, drop, length, slice_get, Option, None, Some, option_map}
use Rattle.std.proofs.{Common.{inl, inr, ◌+◌, refl, sym, ap, ◌∙◌, subst, arith, append_assoc, drop-drop}, lemmas.List.append-nil}
use Rattle.std.proofs.lemmas.List.Sums.{sum_by-cons}
use Rattle.std.specs.{Io.KnownBytes.append_known, Prelude.{sum_by, unwrap_or}}
use Rattle.bridge_io.specs.{Outside.{Files, put, Changes, Appends}, InOrder.put_all}
use Rattle.bridge_courses.specs.{declared.status.Verdict.Verdict, declared.ending.Ending.Ending, Courses.{Step, End, Course, World, Whole}}
use Rattle.bridge_courses.specs.{Courses.{Reaches, last_step, files_to, lines_to}, Executions.{Works, Finishes, NeverFalls, words_line}}
use Rattle.bridge_courses.specs.{Courses.{TakesBytes, TakesAtMost, taken_at, taken_to}, Executions.FailedRead, Steps.{taking, with_reading}}
use Rattle.bridge_courses.specs.Steps.{only_end, first_in, first_step, StepIsDone, Outside, IsCutOff, Halts, Stops, Leads}
use Rattle.bridge_courses.specs.Steps.{IsCaused, Work}
use Rattle.bridge_courses.proofs.Statuses.{rose_later}

-- ---- one after another

pub put_all-both : (fs gs : List (List ℕ × List ℕ)) (files : Files) → put_all (fs ++ gs) files ≡ put_all gs (put_all fs files)
put_all-both [] gs files = refl
put_all-both (f ∷ fs) gs files = put_all-both fs gs (put f.0 f.1 files)

changes_both : (fs gs : List (List ℕ × List ℕ)) (a b c : Option Files) → Changes (put_all fs) a b → Changes (put_all gs) b c
    → Changes (put_all (fs ++ gs)) a c
changes_both fs gs None b c one two = two ∙ ap (option_map (put_all gs)) one
changes_both fs gs (Some files) b c one two = two ∙ ap (option_map (put_all gs)) one ∙ ap Some (sym (put_all-both fs gs files))

pub appends_both : (one two : List ℕ) (r r' r'' : Option (List ℕ)) → Appends one r r' → Appends two r' r'' → Appends (one ++ two) r r''
appends_both one two None r' r'' a b = b ∙ ap (option_map (λ xs. xs ++ two)) a
appends_both one two (Some r) r' r'' a b = b ∙ ap (option_map (λ xs. xs ++ two)) a ∙ ap Some (append_assoc r one two)

pub none_put : (before after : Option Files) → after ≡ before → Changes (put_all []) before after
none_put None after same = same
none_put (Some files) after same = same

pub none_told : (before after : Option (List ℕ)) → after ≡ before → Appends [] before after
none_told None after same = same
none_told (Some bytes) after same = same ∙ ap Some (sym (append-nil bytes))

pub falls_then : (a b c : World) → NeverFalls a b → NeverFalls b c → NeverFalls a c
falls_then a b c one two = record {
  input = omega (arith, one.input, two.input);
  reads = omega (arith, one.reads, two.reads);
  writes = omega (arith, one.writes, two.writes);
  report = omega (arith, one.report, two.report);
}

-- ---- the input

pub taken_both : (a b : ℕ) (x y z : Option (List ℕ)) → TakesBytes a x y → TakesBytes b y z → TakesBytes (a + b) x z
taken_both a b None y z one two = two ∙ ap (option_map (drop b)) one
taken_both a b (Some bytes) y z one two = two ∙ ap (option_map (drop b)) one ∙ ap Some (drop-drop b a bytes)

pub none_taken : (before after : Option (List ℕ)) → after ≡ before → TakesBytes 0 before after
none_taken None after same = same
none_taken (Some bytes) after same = same

pub up_to_none : (count : ℕ) (before after : Option (List ℕ)) → after ≡ before → TakesAtMost count before after
up_to_none count before after same = (0, omega arith, none_taken before after same)

-- one more step asks for its bytes first
taken_more : (count : ℕ) (step : Step) (course : Course) (n : ℕ)
    → taken_to (suc n) (with_reading count step course) ≡ count + taken_to n course
taken_more count step course n = sum_by-cons (λ count. count) count (take n course.taken)

taken_then : (count n : ℕ) (step : Step) (course : Course) (x y z : Option (List ℕ)) → TakesBytes count x y
    → TakesBytes (taken_to n course) y z → TakesBytes (taken_to (suc n) (with_reading count step course)) x z
taken_then count n step course x y z one two = subst (λ k. TakesBytes k x z) (sym (taken_more count step course n))
    (taken_both count (taken_to n course) x y z one two)

taken_later : (count : ℕ) (x y z : Option (List ℕ)) → y ≡ x → TakesBytes count y z → TakesBytes count x z
taken_later count x y z same took = took ∙ ap (option_map (drop count)) same

first_taken : (taken : List ℕ) → unwrap_or (slice_get taken 0) 0 ≡ sum_by (λ count. count) (take 1 taken)
first_taken [] = refl
first_taken (count ∷ taken) = let one = sum_by-cons (λ (count : ℕ). count) count [] in omega (arith, one)

-- ---- a step before others

module _ (count : ℕ) (step : Step) (course : Course) (before mid after : World) (done : StepIsDone step before mid) where
  whole_then : (n : ℕ) → Whole n course mid after → Whole (suc n) (with_reading count step course) before after
  whole_then n whole = record {
    files = changes_both step.files (files_to n course) before.files mid.files after.files done.files whole.files;
    report = appends_both step.lines (lines_to n course) before.report mid.report after.report done.report whole.report;
    made = λ counts. let made = whole.made counts in (
      omega (arith, done.least, made.0, sum_by-cons (λ s. s.least) step (take n course.steps)),
      omega (arith, done.most, made.1, sum_by-cons (λ s. s.most) step (take n course.steps)),
    );
  }

abbrev reaches_then : (count : ℕ) (step next : Step) (course : Course) (before mid after : World) → StepIsDone step before mid
    → TakesBytes count before.input mid.input → Reaches course mid after next → Reaches (with_reading count step course) before after next
reaches_then count step next course before mid after done took reaches = record {
  n = suc reaches.n;
  next = reaches.next;
  whole = whole_then count step course before mid after done reaches.n reaches.whole;
  input = taken_then count reaches.n step course before.input mid.input after.input took reaches.input;
}

module _ (count : ℕ) (step : Step) (course : Course) (before mid after : World) (done : StepIsDone step before mid)
    (took : TakesBytes count before.input mid.input) where
  finishes_then : (v : Verdict) (line : List ℕ) → Finishes course v line mid after
      → Finishes (with_reading count step course) v line before after
  finishes_then v line works = record {
    whole = whole_then count step course before mid after done (length course.steps) works.whole;
    verdict = works.verdict;
    lines = works.lines;
    input = taken_then count (suc (length course.steps)) step course before.input mid.input after.input took works.input;
  }

  works_then : (told : Ending) → NeverFalls before mid → Works course told mid after
      → Works (with_reading count step course) told before after
  works_then (ending.Ended v line) falls works = finishes_then v line works
  works_then ending.Words falls works = finishes_then verdict.Words words_line works
  works_then ending.ReadFault falls works = record {
    mid = works.mid;
    step = works.step;
    reaches = reaches_then count step works.step course before mid works.mid done took works.reaches;
    reads = works.reads;
    rose = elim works.rose [
      | inl rose ↦ inl (rose_later before.read_faults mid.read_faults after.read_faults falls.reads rose.0, rose.1)
      | inr rose ↦ inr (rose_later before.input_faults mid.input_faults after.input_faults falls.input rose.0, rose.1)
    ];
    files = works.files;
    made = works.made;
    report = works.report;
  }
  works_then ending.WriteFault falls works = record {
    mid = works.mid;
    step = works.step;
    reaches = reaches_then count step works.step course before mid works.mid done took works.reaches;
    rose = rose_later before.write_faults mid.write_faults after.write_faults falls.writes works.rose;
    files = works.files;
    made = works.made;
    report = works.report;
    input = works.input;
  }
  works_then ending.Memory falls works = record {
    mid = works.mid;
    step = works.step;
    reaches = reaches_then count step works.step course before mid works.mid done took works.reaches;
    left = works.left;
    report = works.report;
  }
  works_then (ending.Cut fail.Failed) falls works = (
    record {
      mid = works.0.mid;
      step = works.0.step;
      reaches = reaches_then count step works.0.step course before mid works.0.mid done took works.0.reaches;
      owed = omega (arith, works.0.owed);
      files = works.0.files;
      made = works.0.made;
      report = works.0.report;
      input = works.0.input;
    },
    rose_later before.report_faults mid.report_faults after.report_faults falls.report works.1,
  )
  works_then (ending.Cut fail.Memory) falls works = record {
    mid = works.mid;
    step = works.step;
    reaches = reaches_then count step works.step course before mid works.mid done took works.reaches;
    owed = omega (arith, works.owed);
    files = works.files;
    made = works.made;
    report = works.report;
    input = works.input;
  }

-- a step that is done leads on to the rest of the course
pub leads_on : (count : ℕ) (step : Step) (course : Course) (before mid : World) → StepIsDone step before mid
    → TakesBytes count before.input mid.input → NeverFalls before mid → Leads (with_reading count step course) course before mid
leads_on count step course before mid done took falls = λ told after work. record {
  works = works_then count step course before mid after done took told falls work.works;
  never_falls = falls_then before mid after falls work.never_falls;
}

-- ---- reading before others

-- nothing was done but reading
pub record IsIdle (before after : World) : Type 0 where
  pub files : after.files ≡ before.files
  pub report : after.report ≡ before.report
  pub made : after.made ≡ before.made

module _ (course : Course) (before mid after : World) (idle : IsIdle before mid) where
  whole_later : (n : ℕ) → Whole n course mid after → Whole n course before after
  whole_later n whole = record {
    files = whole.files ∙ ap (option_map (put_all (files_to n course))) idle.files;
    report = whole.report ∙ ap (λ report. append_known report (lines_to n course)) idle.report;
    made = λ counts. let made = whole.made counts in (omega (arith, made.0, idle.made), omega (arith, made.1, idle.made));
  }

abbrev reaches_later : (step : Step) (course : Course) (before mid after : World) → IsIdle before mid → mid.input ≡ before.input
    → Reaches course mid after step → Reaches course before after step
reaches_later step course before mid after idle unread reaches = record {
  n = reaches.n;
  next = reaches.next;
  whole = whole_later course before mid after idle reaches.n reaches.whole;
  input = taken_later (taken_to reaches.n course) before.input mid.input after.input unread reaches.input;
}

module _ (course : Course) (before mid after : World) (idle : IsIdle before mid) (unread : mid.input ≡ before.input) where
  finishes_later : (v : Verdict) (line : List ℕ) → Finishes course v line mid after → Finishes course v line before after
  finishes_later v line works = record {
    whole = whole_later course before mid after idle (length course.steps) works.whole;
    verdict = works.verdict;
    lines = works.lines;
    input = taken_later (taken_to (suc (length course.steps)) course) before.input mid.input after.input unread works.input;
  }

  -- work that goes on behind reading is work of the whole
  works_later : (told : Ending) → NeverFalls before mid → Works course told mid after → Works course told before after
  works_later (ending.Ended v line) falls works = finishes_later v line works
  works_later ending.Words falls works = finishes_later verdict.Words words_line works
  works_later ending.ReadFault falls works = record {
    mid = works.mid;
    step = works.step;
    reaches = reaches_later works.step course before mid works.mid idle unread works.reaches;
    reads = works.reads;
    rose = elim works.rose [
      | inl rose ↦ inl (rose_later before.read_faults mid.read_faults after.read_faults falls.reads rose.0, rose.1)
      | inr rose ↦ inr (rose_later before.input_faults mid.input_faults after.input_faults falls.input rose.0, rose.1)
    ];
    files = works.files;
    made = works.made;
    report = works.report;
  }
  works_later ending.WriteFault falls works = record {
    mid = works.mid;
    step = works.step;
    reaches = reaches_later works.step course before mid works.mid idle unread works.reaches;
    rose = rose_later before.write_faults mid.write_faults after.write_faults falls.writes works.rose;
    files = works.files;
    made = works.made;
    report = works.report;
    input = works.input;
  }
  works_later ending.Memory falls works = record {
    mid = works.mid;
    step = works.step;
    reaches = reaches_later works.step course before mid works.mid idle unread works.reaches;
    left = works.left;
    report = works.report;
  }
  works_later (ending.Cut fail.Failed) falls works = (
    record {
      mid = works.0.mid;
      step = works.0.step;
      reaches = reaches_later works.0.step course before mid works.0.mid idle unread works.0.reaches;
      owed = works.0.owed;
      files = works.0.files;
      made = works.0.made;
      report = works.0.report;
      input = works.0.input;
    },
    rose_later before.report_faults mid.report_faults after.report_faults falls.report works.1,
  )
  works_later (ending.Cut fail.Memory) falls works = record {
    mid = works.mid;
    step = works.step;
    reaches = reaches_later works.step course before mid works.mid idle unread works.reaches;
    owed = works.owed;
    files = works.files;
    made = works.made;
    report = works.report;
    input = works.input;
  }

pub work_later : (course : Course) (told : Ending) (before mid after : World) → IsIdle before mid → mid.input ≡ before.input
    → NeverFalls before mid → Work course told mid after → Work course told before after
work_later course told before mid after idle unread falls work = record {
  works = works_later course before mid after idle unread told falls work.works;
  never_falls = falls_then before mid after falls work.never_falls;
}

-- ---- the end of the work

first_next : (steps : List Step) (end : End) → slice_get (steps ++ last_step end ∷ []) 0 ≡ Some (first_in steps end)
first_next [] end = refl
first_next (step ∷ steps) end = refl

abbrev first_reached : (course : Course) (w : World) → Reaches course w w (first_step course)
first_reached course w = record {
  n = 0;
  next = first_next course.steps course.end;
  whole =
      record {
        files = none_put w.files w.files refl;
        report = none_told w.report w.report refl;
        made = λ counts. (omega arith, omega arith);
      };
  input = none_taken w.input w.input refl;
}

pub memory_first : (course : Course) (before after : World) → IsIdle before after
    → TakesAtMost (taken_at 0 course) before.input after.input → Works course ending.Memory before after
memory_first course before after idle took = record {
  mid = before;
  step = first_step course;
  reaches = first_reached course before;
  left = inl (idle.files, (λ counts. (omega (arith, idle.made), omega (arith, idle.made))), took);
  report = idle.report;
}

pub read_fault_first : (course : Course) (before after : World) → IsTrue (first_step course).reads
    → FailedRead (taken_at 0 course) before before after → IsIdle before after → Works course ending.ReadFault before after
read_fault_first course before after reads rose idle = record {
  mid = before;
  step = first_step course;
  reaches = first_reached course before;
  reads = reads;
  rose = rose;
  files = idle.files;
  made = λ counts. (omega (arith, idle.made), omega (arith, idle.made));
  report = idle.report;
}

pub ends : (end : End) (taken : List ℕ) (told : Ending) (before after : World)
    → (told ≡ ending.Ended end.verdict end.lines) ⊎ (told ≡ ending.Memory)
    → TakesBytes (taken_at 0 (taking taken (only_end end))) before.input after.input → IsIdle before after
    → Works (taking taken (only_end end)) told before after
ends end taken told before after (inl is) took idle = subst (λ t. Works (taking taken (only_end end)) t before after) (sym is) (record {
  whole = record {
    files = none_put before.files after.files idle.files;
    report = none_told before.report after.report idle.report;
    made = λ counts. (omega (arith, idle.made), omega (arith, idle.made));
  };
  verdict = refl;
  lines = refl;
  input = subst (λ k. TakesBytes k before.input after.input) (first_taken taken) took;
})
ends end taken told before after (inr is) took idle = subst (λ t. Works (taking taken (only_end end)) t before after) (sym is)
    (memory_first (taking taken (only_end end)) before after idle (_, omega arith, took))

pub stops : (count : ℕ) (step : Step) (course : Course) (told : Ending) (before after : World) → Stops step told before after
    → TakesBytes count before.input after.input → Works (with_reading count step course) told before after
stops count step course told before after (inr m) took =
    subst (λ t. Works (with_reading count step course) t before after) (sym m.0) (record {
      mid = before;
      step = step;
      reaches = first_reached (with_reading count step course) before;
      left = inl (m.1, (λ counts. (omega (arith, m.3), m.4)), (count, omega arith, took));
      report = m.2;
    })
stops count step course (ending.Ended v line) before after (inl h) took = absurd h.0
stops count step course ending.Words before after (inl h) took = absurd h.0
stops count step course ending.ReadFault before after (inl h) took = absurd h.0
stops count step course ending.WriteFault before after (inl h) took = record {
  mid = before;
  step = step;
  reaches = first_reached (with_reading count step course) before;
  rose = h.0.0;
  files = h.0.1;
  made = λ counts. (h.1, h.2);
  report = h.0.2;
  input = took;
}
stops count step course ending.Memory before after (inl h) took = record {
  mid = before;
  step = step;
  reaches = first_reached (with_reading count step course) before;
  left = elim h.0.0 [
    | inl same ↦ inl (same, (λ counts. (omega (arith, h.1), h.2)), (count, omega arith, took))
    | inr left ↦ inr (left, (λ counts. (h.1, h.2)), took)
  ];
  report = h.0.1;
}
stops count step course (ending.Cut fail.Failed) before after (inl h) took = (
  record {
    mid = before;
    step = step;
    reaches = first_reached (with_reading count step course) before;
    owed = omega arith;
    files = h.0.0;
    made = λ counts. (h.1, h.2);
    report = h.0.1.1;
    input = took;
  },
  h.0.1.0,
)
stops count step course (ending.Cut fail.Memory) before after (inl h) took = record {
  mid = before;
  step = step;
  reaches = first_reached (with_reading count step course) before;
  owed = omega arith;
  files = h.0.0;
  made = λ counts. (h.1, h.2);
  report = h.0.1;
  input = took;
}

-- a line that was cut off halts the work behind its files
pub halts_cut : (files : List (List ℕ × List ℕ)) (lines : List ℕ) (told : Ending) (o o' : Outside)
    → Changes (put_all files) o.files o'.files
    → IsCutOff lines told o.report_faults o'.report_faults o.report o'.report → Halts files lines told o o'
halts_cut files lines (ending.Ended v line) o o' put cut = absurd cut
halts_cut files lines ending.Words o o' put cut = absurd cut
halts_cut files lines ending.ReadFault o o' put cut = absurd cut
halts_cut files lines ending.WriteFault o o' put cut = absurd cut
halts_cut files lines ending.Memory o o' put cut = absurd cut
halts_cut files lines (ending.Cut f) o o' put cut = (put, cut)

pub caused_later : (told : Ending) (before mid after : World) → NeverFalls before mid → IsCaused told mid after → IsCaused told before after
caused_later (ending.Ended v line) before mid after falls is = is
caused_later ending.Words before mid after falls is = is
caused_later ending.ReadFault before mid after falls is = rose_later before.input_faults mid.input_faults after.input_faults falls.input is
caused_later ending.WriteFault before mid after falls is =
    rose_later before.write_faults mid.write_faults after.write_faults falls.writes is
caused_later ending.Memory before mid after falls is = tt
caused_later (ending.Cut fail.Failed) before mid after falls is =
    rose_later before.report_faults mid.report_faults after.report_faults falls.report is
caused_later (ending.Cut fail.Memory) before mid after falls is = tt

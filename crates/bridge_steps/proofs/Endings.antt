-- How commands end, by what they read and what they write.
use Rattle.bridge_courses.specs.declared.ending.Ending.TheVariants as ending
use Rattle.bridge_courses.specs.declared.status.Status.TheVariants as status
use Rattle.bridge_courses.specs.declared.status.Verdict.TheVariants as verdict
use Rattle.bridge_io.specs.declared.out_fault.OutFault.TheVariants as out
use Rattle.bridge_report.specs.declared.reading.Halt.TheVariants as halt
use Rattle.bridge_report.specs.declared.refusal.Refusal.TheVariants as refusal
use Rattle.std.proofs.Common.{◌≡◌, ◌⊎◌, ◌≤◌, ℕ, Bool, true, false, IsTrue, List, Option, None, Some, IfSome, option_map, Result, Ok, Err}
use Rattle.std.proofs.Common.{OnOk, OnErr, inl, inr, refl, sym, ◌∙◌, ap, subst, arith}
use Rattle.std.specs.{Prelude.{◌≢◌, codes, IfOk}, Option.ForSome}
use Rattle.bridge_io.specs.{Answer.Gives, Fault.{HasCause, Rose}, InOrder.{put_all, AreBegun}, Outside.{Files, Changes}}
use Rattle.bridge_io.specs.declared.out_fault.OutFault.{OutFault}
use Rattle.bridge_courses.specs.{declared.ending.Ending.Ending, declared.status.Verdict.Verdict, Executions.{status_by, status_of}}
use Rattle.bridge_report.specs.{declared.reading.Halt.Halt, Outcomes.{Outcome, Ends, Writes, IsEnding, IsHalt, IsRefusal, Reads}}
use Rattle.bridge_report.specs.{Outcomes.{base_refused, course_by, outcome_told}, Reading.{Named, halted}, Refusals.refusal_line}
use Rattle.bridge_steps.specs.Endings.{IsTold, IsUnplaced, IsWritten, JobEndsAs, NeverReads, NeverWrites, Surroundings}
use Rattle.bridge_steps.specs.Endings.{outcome_written, placed}

-- what holds of each value holds of what it is mapped to
pub over : {A B : Type 0} (f : A → B) (o : Option A) (P : B → Type 0) → ForSome o (λ x. P (f x)) → ForSome (option_map f o) P
over f None P each y is = absurd (cc)
over f (Some x) P each y is = (let same : f x ≡ y = cc in subst P same (each x refl))

-- ---- outcomes of what is read

-- what is made of files that are read: a file that is refused is told, something is read, and segments aren't counted
pub record IsReading {Y : Type 0} (outcome : Result Y Named → Outcome) : Type 0 where
  pub refuses : (named : Named) → outcome (Err named) ≡ Ends verdict.Refused (refusal_line named.0 named.1) true false
  pub reads : (read : Result Y Named) → Reads (outcome read)
  pub uncounted : (read : Result Y Named) → IsTrue (course_by (outcome read)).counts → ⊥

told_reads : (read : Result (Verdict × List ℕ) Named) → Reads (outcome_told read)
told_reads (Ok what) = refl
told_reads (Err named) = refl

told_uncounted : (read : Result (Verdict × List ℕ) Named) → IsTrue (course_by (outcome_told read)).counts → ⊥
told_uncounted (Ok what) is = absurd (let e = is in cc)
told_uncounted (Err named) is = absurd (let e = is in cc)

telling : IsReading outcome_told
telling = record { refuses = λ named. refl; reads = told_reads; uncounted = told_uncounted }

module _ {Y : Type 0} (files : Y → List (List ℕ × List ℕ)) (line : Y → List ℕ) where
  written_reads : (read : Result Y Named) → Reads (outcome_written files line read)
  written_reads (Ok y) = refl
  written_reads (Err named) = refl

  written_uncounted : (read : Result Y Named) → IsTrue (course_by (outcome_written files line read)).counts → ⊥
  written_uncounted (Ok y) is = absurd (let e = is in cc)
  written_uncounted (Err named) is = absurd (let e = is in cc)

  pub writing : IsReading (outcome_written files line)
  writing = record { refuses = λ named. refl; reads = written_reads; uncounted = written_uncounted }

-- ---- a command that is refused, or finds no memory

-- an ending that is a refusal or want of memory, of an outcome that allows for it
quiet : (outcome : Option Outcome) (told : Ending) (before after : Surroundings)
    → (status_of told ≡ status.Refused) ⊎ (status_of told ≡ status.Memory)
    → ForSome outcome (λ o. IsEnding o told before.files after.files)
    → ForSome outcome (λ o. IsTrue (course_by o).counts → after.made ≡ before.made)
    → before.read_faults ≤ after.read_faults → before.write_faults ≤ after.write_faults → JobEndsAs outcome told before after
quiet outcome told before after (inl is) ends made reads writes = record {
  ends =
      record { ending = ends; made = made; read_fault = λ e. absurd (cc); write_fault = λ e. absurd (cc); reads = reads; writes = writes };
  job = λ e. absurd (cc);
}
quiet outcome told before after (inr is) ends made reads writes = record {
  ends =
      record { ending = ends; made = made; read_fault = λ e. absurd (cc); write_fault = λ e. absurd (cc); reads = reads; writes = writes };
  job = λ e. absurd (cc);
}

-- memory is wanting before anything is read
pub memory_first : (outcome : Option Outcome) (told : Ending) (w : Surroundings) → told ≡ ending.Memory → JobEndsAs outcome told w w
memory_first outcome told w is =
    quiet outcome told w w (inr (ap status_of is)) (λ o e. rw is (inl refl)) (λ o e counts. refl) (omega arith) (omega arith)

refusal_status : (line : List ℕ) (told : Ending) → IsRefusal line told
    → (status_of told ≡ status.Refused) ⊎ (status_of told ≡ status.Memory)
refusal_status line told (inl is) = inl (ap status_of is)
refusal_status line told (inr is) = inr (ap status_of is)

refusal_ends : (line : List ℕ) (reads counts : Bool) (told : Ending) (before after : Option Files) → IsRefusal line told → after ≡ before
    → IsEnding (Ends verdict.Refused line reads counts) told before after
refusal_ends line reads counts told before after (inl is) same = rw is (refl, refl, same)
refusal_ends line reads counts told before after (inr is) same = rw is (inl same)

-- a job without places ends so, whatever the store tells
pub unplaced : {P : Type 0} (place : Option P) (at : P → Option Outcome) (told : Ending) (w : Surroundings) → IsUnplaced place told
    → JobEndsAs (placed at place) told w w
unplaced place at told w (inr is) = memory_first (placed at place) told w is
unplaced None at told w (inl is) =
    quiet (Some base_refused) told w w (refusal_status (refusal_line (codes "-") refusal.Base) told is.1)
    (λ o e. (let same : base_refused ≡ o = cc in subst (λ o. IsEnding o told w.files w.files) same
    (refusal_ends (refusal_line (codes "-") refusal.Base) false true told w.files w.files is.1 refl)))
    (λ o e counts. refl) (omega arith) (omega arith)
unplaced (Some place) at told w (inl is) = absurd (let e = is.0 in cc)

-- no verdict is a fault, nor is a refusal
verdict_reads : (v : Verdict) → status_by v ≡ status.ReadFault → ⊥
verdict_reads verdict.Done e = absurd (cc)
verdict_reads verdict.Refused e = absurd (cc)
verdict_reads verdict.Words e = absurd (cc)
verdict_reads verdict.Differ e = absurd (cc)

verdict_writes : (v : Verdict) → status_by v ≡ status.WriteFault → ⊥
verdict_writes verdict.Done e = absurd (cc)
verdict_writes verdict.Refused e = absurd (cc)
verdict_writes verdict.Words e = absurd (cc)
verdict_writes verdict.Differ e = absurd (cc)

refused_writes : (line : List ℕ) (told : Ending) → IsRefusal line told → status_of told ≡ status.WriteFault → ⊥
refused_writes line told (inl is) e = absurd (let f = ap status_of (sym is) ∙ e in cc)
refused_writes line told (inr is) e = absurd (let f = ap status_of (sym is) ∙ e in cc)

-- a job whose files have places ends as it ends there
pub at_place : {P : Type 0} (place : Option P) (found : P) (at : P → Option Outcome) (told : Ending) (before after : Surroundings)
    → place ≡ Some found
    → JobEndsAs (at found) told before after → JobEndsAs (placed at place) told before after
at_place place found at told before after is ends = rw is ends

-- ---- a command that reads

rose_later : (a b c : ℕ) → a ≤ b → Rose b c → Rose a c
rose_later a b c grows (inl less) = inl (omega (arith, grows, less))
rose_later a b c grows (inr most) = inr most

module _ {Y : Type 0} (outcome : Result Y Named → Outcome) (reading : IsReading outcome) (m : Files → Result Y Named) (told : Ending)
    (before after : Surroundings) where
  abbrev result : Option Outcome
  result = option_map (λ files. outcome (m files)) before.files

  each : ((files : Files) → before.files ≡ Some files → IsEnding (outcome (m files)) told before.files after.files)
      → ForSome result (λ o. IsEnding o told before.files after.files)
  each ends = over (λ files. outcome (m files)) before.files (λ o. IsEnding o told before.files after.files) ends

  uncounted : ForSome result (λ o. IsTrue (course_by o).counts → after.made ≡ before.made)
  uncounted = over (λ files. outcome (m files)) before.files (λ o. IsTrue (course_by o).counts → after.made ≡ before.made)
      (λ files is counts. absurd (reading.uncounted (m files) counts))

  -- a file isn't read
  pub halts : (why : Halt) → IsHalt why told → ForSome before.files (λ files. IfSome (halted why) (λ named. m files ≡ Err named))
      → (why ≡ halt.ReadFault → Rose before.read_faults after.read_faults) → before.read_faults ≤ after.read_faults
      → after.files ≡ before.files → after.write_faults ≡ before.write_faults → JobEndsAs result told before after
  halts (halt.Refused file refusal) is gives rose reads same writes =
      quiet result told before after (refusal_status (refusal_line file refusal) told is)
      (each (λ files e. rw (gives files e, reading.refuses (file, refusal)) (refusal_ends (refusal_line file refusal) true false told
      before.files after.files is same)))
      uncounted reads (omega (arith, writes))
  halts halt.ReadFault is gives rose reads same writes = record {
    ends = record {
      ending = each (λ files e. rw is (reading.reads (m files), same));
      made = uncounted;
      read_fault = λ e. rose refl;
      write_fault = λ e. absurd (cc);
      reads = reads;
      writes = omega (arith, writes);
    };
    job = λ e. absurd (cc);
  }
  halts halt.Memory is gives rose reads same writes =
      quiet result told before after (inr (ap status_of is)) (each (λ files e. rw is (inl same))) uncounted reads (omega (arith, writes))

  -- all is read, and then it ends so
  pub then_ends : (y : Y) (mid : Surroundings) → ForSome before.files (λ files. m files ≡ Ok y) → before.read_faults ≤ mid.read_faults
      → mid.files ≡ before.files → mid.write_faults ≡ before.write_faults → JobEndsAs (Some (outcome (Ok y))) told mid after
      → JobEndsAs result told before after
  then_ends y mid gives reads same writes then = record {
    ends = record {
      ending = each (λ files e. rw (gives files e, sym same) (then.ends.ending (outcome (Ok y)) refl));
      made = uncounted;
      read_fault = λ e. rose_later before.read_faults mid.read_faults after.read_faults reads (then.ends.read_fault e);
      write_fault = λ e. subst (λ faults. Rose faults after.write_faults) writes (then.ends.write_fault e);
      reads = omega (arith, reads, then.ends.reads);
      writes = omega (arith, writes, then.ends.writes);
    };
    job = then.job;
  }

-- what is read is told, and no write is tried
pub tells : (m : Files → Result (Verdict × List ℕ) Named) (read : Result (Verdict × List ℕ) Halt) (told : Ending)
    (before after : Surroundings)
    → ForSome before.files (λ files. Gives (λ what. what) halted read (m files)) → IfOk read (λ what. status_by what.0 ≢ status.Words)
    → HasCause halt.ReadFault before.read_faults after.read_faults read → after.files ≡ before.files
    → after.write_faults ≡ before.write_faults
    → IsTold read told → JobEndsAs (option_map (λ files. outcome_told (m files)) before.files) told before after
tells m (Ok what) told before after gives job cause same writes is = record {
  ends = record {
    ending =
        over (λ files. outcome_told (m files)) before.files (λ o. IsEnding o told before.files after.files)
        (λ files e. rw (is, gives files e) (refl, refl, same));
    made = over (λ files. outcome_told (m files)) before.files (λ o. IsTrue (course_by o).counts → after.made ≡ before.made)
        (λ files e counts. absurd (told_uncounted (m files) counts));
    read_fault = λ e. absurd (verdict_reads what.0 (ap status_of (sym is) ∙ e));
    write_fault = λ e. absurd (verdict_writes what.0 (ap status_of (sym is) ∙ e));
    reads = cause.never_falls;
    writes = omega (arith, writes);
  };
  job = λ e. job (ap status_of (sym is) ∙ e);
}
tells m (Err why) told before after gives job cause same writes is =
    halts outcome_told telling m told before after why is gives (λ e. cause.rose (ap Err e)) cause.never_falls same writes

pub told_never_writes : (read : Result (Verdict × List ℕ) Halt) (told : Ending) (before after : ℕ) → IsTold read told → after ≡ before
    → NeverWrites told before after
told_never_writes (Ok what) told before after is same =
    record { write_fault = λ e. absurd (verdict_writes what.0 (ap status_of (sym is) ∙ e)); writes = same }
told_never_writes (Err (halt.Refused file refusal)) told before after is same =
    record { write_fault = λ e. refused_writes (refusal_line file refusal) told is e; writes = same }
told_never_writes (Err halt.ReadFault) told before after is same =
    record { write_fault = λ e. absurd (let f = ap status_of (sym is) ∙ e in cc); writes = same }
told_never_writes (Err halt.Memory) told before after is same =
    record { write_fault = λ e. absurd (let f = ap status_of (sym is) ∙ e in cc); writes = same }

-- a base that is refused, likewise
pub unplaced_never_writes : {P : Type 0} (place : Option P) (told : Ending) (faults : ℕ) → IsUnplaced place told
    → NeverWrites told faults faults
unplaced_never_writes place told faults (inl is) =
    record { write_fault = λ e. refused_writes (refusal_line (codes "-") refusal.Base) told is.1 e; writes = refl }
unplaced_never_writes place told faults (inr is) =
    record { write_fault = λ e. absurd (let f = ap status_of (sym is) ∙ e in cc); writes = refl }

-- ---- a command that writes

-- an ending of a command that writes and hasn't read
written_as : (files : List (List ℕ × List ℕ)) (line : List ℕ) (reads : Bool) (told : Ending) (before after : Surroundings)
    → IsEnding (Writes files line reads) told before.files after.files → (status_of told ≡ status.ReadFault → ⊥)
    → (status_of told ≡ status.Words → ⊥)
    → (status_of told ≡ status.WriteFault → Rose before.write_faults after.write_faults) → after.read_faults ≡ before.read_faults
    → before.write_faults ≤ after.write_faults → JobEndsAs (Some (Writes files line reads)) told before after
written_as files line reads told before after ends no_read job cause same writes = record {
  ends = record {
    ending = λ o e. (let this : Writes files line reads ≡ o = cc in subst (λ o. IsEnding o told before.files after.files) this ends);
    made =
        λ o e counts. absurd (let this : o ≡ Writes files line reads =
        cc in let none = subst (λ o. IsTrue (course_by o).counts) this counts in cc);
    read_fault = λ e. absurd (no_read e);
    write_fault = cause;
    reads = omega (arith, same);
    writes = writes;
  };
  job = job;
}

-- the files of an outcome are written, and a line is told of them
pub writes : (files : List (List ℕ × List ℕ)) (line : List ℕ) (reads : Bool) (written : Result (Unit {0}) OutFault) (told : Ending)
    (before after : Surroundings)
    → OnOk written (Changes (put_all files) before.files after.files) → OnErr written (AreBegun files before.files after.files)
    → HasCause out.WriteFault before.write_faults after.write_faults written → after.read_faults ≡ before.read_faults
    → IsWritten line written told → JobEndsAs (Some (Writes files line reads)) told before after
writes files line reads (Ok tt) told before after ok err cause same is =
    written_as files line reads told before after (rw is (refl, refl, ok)) (λ e. absurd (let f = ap status_of (sym is) ∙ e in cc))
    (λ e. absurd (let f = ap status_of (sym is) ∙ e in cc)) (λ e. absurd (let f = ap status_of (sym is) ∙ e in cc)) same cause.never_falls
writes files line reads (Err out.WriteFault) told before after ok err cause same is =
    written_as files line reads told before after (rw is err) (λ e. absurd (let f = ap status_of (sym is) ∙ e in cc))
    (λ e. absurd (let f = ap status_of (sym is) ∙ e in cc)) (λ e. cause.rose refl) same cause.never_falls
writes files line reads (Err out.Memory) told before after ok err cause same is =
    written_as files line reads told before after (rw is (inr err)) (λ e. absurd (let f = ap status_of (sym is) ∙ e in cc))
    (λ e. absurd (let f = ap status_of (sym is) ∙ e in cc)) (λ e. absurd (let f = ap status_of (sym is) ∙ e in cc)) same cause.never_falls

pub written_never_reads : (line : List ℕ) (written : Result (Unit {0}) OutFault) (told : Ending) (before after : ℕ)
    → IsWritten line written told → after ≡ before
    → NeverReads told before after
written_never_reads line (Ok tt) told before after is same =
    record { read_fault = λ e. absurd (let f = ap status_of (sym is) ∙ e in cc); reads = same }
written_never_reads line (Err out.WriteFault) told before after is same =
    record { read_fault = λ e. absurd (let f = ap status_of (sym is) ∙ e in cc); reads = same }
written_never_reads line (Err out.Memory) told before after is same =
    record { read_fault = λ e. absurd (let f = ap status_of (sym is) ∙ e in cc); reads = same }

-- ---- a command that reads nothing

abbrev seen : (files : Option Files) (read_faults write_faults made : ℕ) → Surroundings
seen files read_faults write_faults made = record { files = files; read_faults = read_faults; write_faults = write_faults; made = made }

module _ (files : Option Files) (read_faults write_faults made made' : ℕ) where
  -- what it makes is refused, or memory is wanting
  pub is_refused : (why : Halt) (told : Ending) (outcome : Outcome) → IsHalt why told → (why ≡ halt.ReadFault → ⊥)
      → IfSome (halted why) (λ named. outcome ≡ Ends verdict.Refused (refusal_line named.0 named.1) false false)
      → (IsTrue (course_by outcome).counts → ⊥)
      → JobEndsAs (Some outcome) told (seen files read_faults write_faults made) (seen files read_faults write_faults made')
  is_refused (halt.Refused name refusal) told outcome is no_fault refuses uncounts =
      quiet (Some outcome) told _ _ (refusal_status (refusal_line name refusal) told is)
      (λ o e. (let this : Ends verdict.Refused (refusal_line name refusal) false false ≡ o = cc in
      subst (λ o. IsEnding o told files files) this (refusal_ends (refusal_line name refusal) false false told files files is refl)))
      (λ o e counts. absurd (let this : o ≡ outcome = cc in uncounts (subst (λ o. IsTrue (course_by o).counts) this counts))) (omega arith)
      (omega arith)
  is_refused halt.ReadFault told outcome is no_fault refuses uncounts = absurd (no_fault refl)
  is_refused halt.Memory told outcome is no_fault refuses uncounts =
      quiet (Some outcome) told _ _ (inr (ap status_of is)) (λ o e. rw is (inl refl))
      (λ o e counts. absurd (let this : o ≡ outcome = cc in uncounts (subst (λ o. IsTrue (course_by o).counts) this counts))) (omega arith)
      (omega arith)

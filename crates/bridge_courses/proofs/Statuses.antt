-- What the status of a run tells of how its work ended.
use Rattle.bridge_io.specs.declared.outside.Fail.TheVariants as fail
use Rattle.bridge_courses.specs.declared.status.Status.TheVariants as status
use Rattle.bridge_courses.specs.declared.status.Verdict.TheVariants as verdict
use Rattle.bridge_courses.specs.declared.ending.Ending.TheVariants as ending
use Rattle.std.proofs.Common.{◌≡◌, ◌⊎◌, ℕ, ◌≤◌, Bool, true, false, List, Option, inl, inr, refl, sym, ◌∙◌, ap, subst, arith}
use Rattle.bridge_io.specs.{Fault.Rose, Outside.Appends}
use Rattle.bridge_courses.specs.{declared.status.Status.Status, declared.status.Verdict.Verdict, declared.ending.Ending.Ending}
use Rattle.bridge_courses.specs.{Courses.{Course, World}, Executions.{status_by, status_of, status_untold, line_of, words_line, TellsAs}}
use Rattle.bridge_courses.specs.Executions.{Works, Finishes, FailsReading}

-- ---- the statuses of verdicts

abbrev verdict_at : Status → Verdict
verdict_at status.Done = verdict.Done
verdict_at status.Refused = verdict.Refused
verdict_at status.Words = verdict.Words
verdict_at status.ReadFault = verdict.Done
verdict_at status.WriteFault = verdict.Done
verdict_at status.Memory = verdict.Done
verdict_at status.Differ = verdict.Differ

verdict_at-status : (v : Verdict) → verdict_at (status_by v) ≡ v
verdict_at-status verdict.Done = refl
verdict_at-status verdict.Refused = refl
verdict_at-status verdict.Words = refl
verdict_at-status verdict.Differ = refl

abbrev fails : Status → Bool
fails status.Done = false
fails status.Refused = false
fails status.Words = false
fails status.ReadFault = true
fails status.WriteFault = true
fails status.Memory = true
fails status.Differ = false

never_fails : (v : Verdict) → fails (status_by v) ≡ false
never_fails verdict.Done = refl
never_fails verdict.Refused = refl
never_fails verdict.Words = refl
never_fails verdict.Differ = refl

same_verdict : (v w : Verdict) → status_by v ≡ status_by w → v ≡ w
same_verdict v w e = sym (verdict_at-status v) ∙ ap verdict_at e ∙ verdict_at-status w

pub no_fault : (v : Verdict) (s : Status) → fails s ≡ true → status_by v ≡ s → ⊥
no_fault v s bad e = let one = never_fails v in let two = ap fails e in absurd (cc)

-- ---- how the work ended

untold : (told : Ending) (s : Status) → s ≡ status_untold told → (s ≡ status_of told) ⊎ (s ≡ status.WriteFault)
untold (ending.Ended verdict.Done line) s e = inr e
untold told s e = inl e

-- the status is the ending's, or the sink failed
pub told_as : (told : Ending) (s : Status) (f f' : ℕ) (r r' : Option (List ℕ)) → TellsAs told s f f' r r'
    → (s ≡ status_of told) ⊎ (((s ≡ status.WriteFault) × Rose f f') ⊎ (s ≡ status.Memory))
told_as told s f f' r r' (inl h) = inl h.0
told_as told s f f' r r' (inr (inl h)) = elim (untold told s h.0) [ inl same ↦ inl same | inr fault ↦ inr (inl (fault, h.1)) ]
told_as told s f f' r r' (inr (inr h)) = inr (inr h.0)

pub finished : (course : Course) (v : Verdict) (told : Ending) (before mid : World) → status_by v ≡ status_of told
    → Works course told before mid → Finishes course v (line_of told) before mid
finished course v (ending.Ended w line) before mid e works = subst (λ u. Finishes course u line before mid) (sym (same_verdict v w e)) works
finished course v ending.Words before mid e works = subst (λ u. Finishes course u words_line before mid)
    (sym (same_verdict v verdict.Words e)) works
finished course v ending.ReadFault before mid e works = absurd (no_fault v status.ReadFault refl e)
finished course v ending.WriteFault before mid e works = absurd (no_fault v status.WriteFault refl e)
finished course v ending.Memory before mid e works = absurd (no_fault v status.Memory refl e)
finished course v (ending.Cut fail.Failed) before mid e works = absurd (no_fault v status.WriteFault refl e)
finished course v (ending.Cut fail.Memory) before mid e works = absurd (no_fault v status.Memory refl e)

pub fails_reading : (course : Course) (told : Ending) (before mid : World) → status.ReadFault ≡ status_of told
    → Works course told before mid → FailsReading course before mid
fails_reading course (ending.Ended w line) before mid e works = absurd (no_fault w status.ReadFault refl (sym e))
fails_reading course ending.ReadFault before mid e works = works
fails_reading course (ending.Cut fail.Failed) before mid e works = absurd (cc)
fails_reading course (ending.Cut fail.Memory) before mid e works = absurd (cc)
fails_reading course told before mid e works = absurd (cc)

pub rose_in_writing : (course : Course) (told : Ending) (before mid : World) → status.WriteFault ≡ status_of told
    → Works course told before mid → Rose before.write_faults mid.write_faults ⊎ Rose before.report_faults mid.report_faults
rose_in_writing course (ending.Ended w line) before mid e works = absurd (no_fault w status.WriteFault refl (sym e))
rose_in_writing course ending.WriteFault before mid e works = inl works.rose
rose_in_writing course (ending.Cut fail.Failed) before mid e works = inr works.1
rose_in_writing course (ending.Cut fail.Memory) before mid e works = absurd (cc)
rose_in_writing course told before mid e works = absurd (cc)

-- a count that rose before others went on rose on the whole
pub rose_first : (a b c : ℕ) → Rose a b → b ≤ c → Rose a c
rose_first a b c (inl below) h = inl (omega arith)
rose_first a b c (inr last) h = inr (omega arith)

pub rose_later : (a b c : ℕ) → a ≤ b → Rose b c → Rose a c
rose_later a b c h (inl below) = inl (omega arith)
rose_later a b c h (inr last) = inr last

never_done : (told : Ending) → status.Done ≡ status_untold told → ⊥
never_done (ending.Ended verdict.Done line) e = absurd (cc)
never_done (ending.Cut fail.Failed) e = absurd (cc)
never_done (ending.Cut fail.Memory) e = absurd (cc)
never_done told e = absurd (cc)

-- the line of a job that is done was told whole
pub told_whole : (told : Ending) (f f' : ℕ) (r r' : Option (List ℕ)) → TellsAs told status.Done f f' r r' → Appends (line_of told) r r'
told_whole told f f' r r' (inl h) = h.1
told_whole told f f' r r' (inr (inl h)) = absurd (never_done told h.0)
told_whole told f f' r r' (inr (inr h)) = absurd (let e = h.0 in cc)

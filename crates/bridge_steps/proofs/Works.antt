-- How the work of a run ends follows from what it leaves of the files.
use Rattle.bridge_io.specs.declared.outside.Fail.TheVariants as fail
use Rattle.bridge_courses.specs.declared.status.Verdict.TheVariants as verdict
use Rattle.bridge_courses.specs.declared.status.Status.TheVariants as status
use Rattle.bridge_courses.specs.declared.ending.Ending.TheVariants as ending
use Rattle.std.proofs.Common.{◌≡◌, ◌⊎◌, ◌+◌, ◌≤◌, ℕ, Bool, false, IsTrue, List, [], Option, option_map, inl, inr, refl, sym, ap}
use Rattle.std.proofs.{Common.{◌∙◌, arith}, lemmas.List.append-nil}
use Rattle.std.specs.Option.{ForSome}
use Rattle.bridge_io.specs.{Fault.Rose, InOrder.put_all}
use Rattle.bridge_courses.specs.{declared.status.Verdict.Verdict, declared.status.Status.Status, declared.ending.Ending.Ending}
use Rattle.bridge_courses.specs.{Executions.{Works, Finishes, TellsAs, status_of, status_untold, words_line}, Steps.Work}
use Rattle.bridge_courses.specs.Courses.{World, Whole, Step, Reaches, last_step}
use Rattle.bridge_courses.proofs.Stepping.{none_put, none_taken, none_told, up_to_none}
use Rattle.bridge_report.specs.Outcomes.{Outcome, Ends, Writes, course_by, IsSaid, IsEnding}
use Rattle.bridge_steps.specs.Endings.{EndsAs, Surroundings}
use Rattle.bridge_steps.proofs.Endings.{over}

-- as many segments are made as there were
none_made : (counts : Bool) (before after : ℕ) → (IsTrue counts → after ≡ before) → IsTrue counts
    → (before + 0 ≤ after) × (after ≤ before + 0)
none_made counts before after same is = (omega (arith, same is), omega (arith, same is))

uncounted : {P : Type 0} → IsTrue false → P
uncounted is = absurd (let e = is in cc)

-- nothing is done yet
at_first : (outcome : Outcome) (w : World) → Whole 0 (course_by outcome) w w
at_first (Ends v l reads counts) w =
    record {
      files =
          none_put w.files w.files refl;
      report = none_told w.report w.report refl;
      made = none_made counts w.made w.made (λ is. refl);
    }
at_first (Writes files l reads) w =
    record {
      files =
          none_put w.files w.files refl;
      report = none_told w.report w.report refl;
      made = none_made false w.made w.made (λ is. refl);
    }

abbrev first_step : Outcome → Step
first_step (Ends v l reads counts) = last_step (course_by (Ends v l reads counts)).end
first_step (Writes files l reads) = record { files = files; lines = []; least = 0; most = 0; reads = reads }

reached : (outcome : Outcome) (w : World) → Reaches (course_by outcome) w w (first_step outcome)
reached (Ends v l reads counts) w =
    record { n = 0; next = refl; whole = at_first (Ends v l reads counts) w; input = none_taken w.input w.input refl }
reached (Writes files l reads) w =
    record { n = 0; next = refl; whole = at_first (Writes files l reads) w; input = none_taken w.input w.input refl }

said : (outcome : Outcome) (end : Verdict) (line : List ℕ) (before after : World) → IsSaid outcome end line before.files after.files
    → after.report ≡ before.report → after.input ≡ before.input
    → (IsTrue (course_by outcome).counts → after.made ≡ before.made) → Finishes (course_by outcome) end line before after
said (Ends v l reads counts) end line before after is report unread made = record {
  whole =
      record {
        files =
            none_put before.files after.files is.2;
        report = none_told before.report after.report report;
        made = none_made counts before.made after.made made;
      };
  verdict = is.0;
  lines = is.1;
  input = none_taken before.input after.input unread;
}
said (Writes files l reads) end line before after is report unread made = record {
  whole = record {
    files = is.2 ∙ ap (λ fs. option_map (put_all fs) before.files) (sym (append-nil files));
    report = none_told before.report after.report report;
    made = none_made false before.made after.made made;
  };
  verdict = is.0;
  lines = is.1;
  input = none_taken before.input after.input unread;
}

-- a run that tells nothing before its end works so
pub works : (outcome : Outcome) (told : Ending) (before after : World) → IsEnding outcome told before.files after.files
    → (told ≡ ending.ReadFault → Rose before.read_faults after.read_faults)
    → (told ≡ ending.WriteFault → Rose before.write_faults after.write_faults)
    → after.report ≡ before.report → after.input ≡ before.input → (IsTrue (course_by outcome).counts → after.made ≡ before.made)
    → Works (course_by outcome) told before after
works outcome (ending.Ended end line) before after is read write report unread made =
    said outcome end line before after is report unread made
works outcome ending.Words before after is read write report unread made =
    said outcome verdict.Words words_line before after is report unread made
works (Ends v l reads counts) ending.ReadFault before after is read write report unread made = record {
  mid = before;
  step = first_step (Ends v l reads counts);
  reaches = reached (Ends v l reads counts) before;
  reads = is.0;
  rose = inl (read refl, inl unread);
  files = is.1;
  made = none_made counts before.made after.made made;
  report = report;
}
works (Writes files l reads) ending.ReadFault before after is read write report unread made = record {
  mid = before;
  step = first_step (Writes files l reads);
  reaches = reached (Writes files l reads) before;
  reads = is.0;
  rose = inl (read refl, inl unread);
  files = is.1;
  made = none_made false before.made after.made made;
  report = report;
}
works (Ends v l reads counts) ending.WriteFault before after is read write report unread made = absurd is
works (Writes files l reads) ending.WriteFault before after is read write report unread made = record {
  mid = before;
  step = first_step (Writes files l reads);
  reaches = reached (Writes files l reads) before;
  rose = write refl;
  files = is;
  made = none_made false before.made after.made made;
  report = report;
  input = none_taken before.input after.input unread;
}
works (Ends v l reads counts) ending.Memory before after (inl same) read write report unread made = record {
  mid = before;
  step = first_step (Ends v l reads counts);
  reaches = reached (Ends v l reads counts) before;
  left = inl (same, none_made counts before.made after.made made, up_to_none 0 before.input after.input unread);
  report = report;
}
works (Ends v l reads counts) ending.Memory before after (inr begun) read write report unread made = absurd begun
works (Writes files l reads) ending.Memory before after (inl same) read write report unread made = record {
  mid = before;
  step = first_step (Writes files l reads);
  reaches = reached (Writes files l reads) before;
  left = inl (same, none_made false before.made after.made made, up_to_none 0 before.input after.input unread);
  report = report;
}
works (Writes files l reads) ending.Memory before after (inr begun) read write report unread made = record {
  mid = before;
  step = first_step (Writes files l reads);
  reaches = reached (Writes files l reads) before;
  left = inr (inl begun, none_made false before.made after.made made, none_taken before.input after.input unread);
  report = report;
}
works outcome (ending.Cut fail) before after is read write report unread made = absurd is

-- what a command meets of what a run meets
abbrev pub met : World → Surroundings
met world =
    record { files = world.files; read_faults = world.read_faults; write_faults = world.write_faults; made = world.made }

-- the work of a command that leaves the input and the report, of the course that its outcome is
pub work_of : (o : Option Outcome) (told : Ending) (before after : World) → EndsAs o told (met before) (met after)
    → after.input ≡ before.input → after.input_faults ≡ before.input_faults → after.report_faults ≡ before.report_faults
    → after.report ≡ before.report → ForSome (option_map course_by o) (λ course. Work course told before after)
work_of o told before after ends unread input faults report =
    over course_by o (λ course. Work course told before after) (λ outcome is. record {
      works =
          works outcome told before after (ends.ending outcome is) (λ e. ends.read_fault (ap status_of e))
          (λ e. ends.write_fault (ap status_of e)) report unread
          (ends.made outcome is);
      never_falls =
          record { input = omega (arith, input); reads = ends.reads; writes = ends.writes; report = omega (arith, faults) };
    })

-- a status that neither a write fault nor want of memory has is told of its own endings alone
module _ (end : Status) (no_write : status.WriteFault ≡ end → ⊥) (no_memory : status.Memory ≡ end → ⊥) where
  untold : (told : Ending) → status_untold told ≡ end → status_of told ≡ end
  untold (ending.Ended verdict.Done line) is = absurd (no_write is)
  untold (ending.Ended verdict.Refused line) is = is
  untold (ending.Ended verdict.Words line) is = is
  untold (ending.Ended verdict.Differ line) is = is
  untold ending.Words is = is
  untold ending.ReadFault is = is
  untold ending.WriteFault is = is
  untold ending.Memory is = is
  untold (ending.Cut fail.Failed) is = is
  untold (ending.Cut fail.Memory) is = is

  told_itself : (told : Ending) (status : Status) (f f' : ℕ) (r r' : Option (List ℕ)) → TellsAs told status f f' r r' → status ≡ end
      → status_of told ≡ end
  told_itself told status f f' r r' (inl tells) is = sym tells.0 ∙ is
  told_itself told status f f' r r' (inr (inl tells)) is = untold told (sym tells.0 ∙ is)
  told_itself told status f f' r r' (inr (inr tells)) is = absurd (no_memory (sym tells.0 ∙ is))

pub words_told : (told : Ending) (end : Status) (f f' : ℕ) (r r' : Option (List ℕ)) → TellsAs told end f f' r r' → end ≡ status.Words
    → status_of told ≡ status.Words
words_told = told_itself status.Words (λ is. cc) (λ is. cc)

pub read_fault_told : (told : Ending) (end : Status) (f f' : ℕ) (r r' : Option (List ℕ)) → TellsAs told end f f' r r'
    → end ≡ status.ReadFault
    → status_of told ≡ status.ReadFault
read_fault_told = told_itself status.ReadFault (λ is. cc) (λ is. cc)

-- a write fault is told of one, or where the sink failed
pub write_fault_told : (told : Ending) (end : Status) (f f' : ℕ) (r r' : Option (List ℕ)) {P : Type 0} → TellsAs told end f f' r r'
    → end ≡ status.WriteFault
    → (status_of told ≡ status.WriteFault → P) → P ⊎ Rose f f'
write_fault_told told end f f' r r' (inl tells) is rose = inl (rose (sym tells.0 ∙ is))
write_fault_told told end f f' r r' (inr (inl tells)) is rose = inr tells.1
write_fault_told told end f f' r r' (inr (inr tells)) is rose = absurd (let e = tells.0 in cc)

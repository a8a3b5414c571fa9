-- What is left of the course of a stream.
use Rattle.bridge_jobs.specs.declared.frame.FrameFault.TheVariants as fault
use Rattle.bridge_courses.specs.declared.status.Verdict.TheVariants as verdict
use Rattle.bridge_courses.specs.declared.ending.Ending.TheVariants as ending
use Rattle.std.proofs.Common.{◌≡◌, ◌⊎◌, ℕ, ◌+◌, Bool, true, false, IsTrue, List, [], ◌∷◌, Option, None, Some, option_map, IfSome, inl, inr}
use Rattle.std.proofs.Common.{refl, sym, ap, ◌∙◌, subst, drop, arith}
use Rattle.bridge_io.specs.{Fault.Rose, InOrder.put_all, Outside.{Changes, Files}}
use Rattle.bridge_jobs.specs.{Frames.{LeavesAt, refusal}, declared.frame.FramePos.FramePos, declared.frame.FrameFault.FrameFault}
use Rattle.bridge_courses.specs.{declared.ending.Ending.Ending, Courses.{Course, World}, Executions.{Works, NeverFalls}, Steps.first_step}
use Rattle.bridge_courses.specs.{Courses.TakesBytes, Executions.FailedRead}
use Rattle.bridge_courses.specs.Steps.{StepIsDone, Leads, only_end, taking, with_reading}
use Rattle.bridge_courses.proofs.Stepping.{IsIdle, memory_first, read_fault_first, ends, stops, leads_on}
use Rattle.bridge_report.specs.Outcomes.{IsRefusal}
use Rattle.bridge_report.specs.Following.{Followed, step_of, next_of, accepted_with, stream_line, end_by, course_from, judged_from}
use Rattle.bridge_steps.specs.{declared.run.Following.Following, Follow.{EndsIn, IsBroken, course_of, fault_line, files_seen, rest_course}}
use Rattle.bridge_steps.specs.Streams.{Stream, first_size, with_first}

-- the files that the next frame is judged by, where some were written
abbrev pub files_after : (reads : Bool) → (written : List (List ℕ × List ℕ)) → Files → Files
files_after false written files = files
files_after true written files = put_all written files

pub seen_after : (reads : Bool) (written : List (List ℕ × List ℕ)) (before after : Option Files) (files : Files)
    → files_seen reads before ≡ Some files → Changes (put_all written) before after
    → files_seen reads after ≡ Some (files_after reads written files)
seen_after false written before after files is changes = is
seen_after true written before after files is changes = changes ∙ ap (option_map (put_all written)) is

-- so many bytes were read of known ones
pub taken_of : (size : ℕ) (bytes : List ℕ) (before after : Option (List ℕ)) → before ≡ Some bytes → after ≡ Some (drop size bytes)
    → TakesBytes size before after
taken_of size bytes before after was is = is ∙ sym (ap (option_map (drop size)) was)

module _ {S X : Type 0} (reads : Bool) (told : Files → Followed S X) (files : Files) (s : S) (i a : ℕ) where
  abbrev course : Stream X → Course
  course = course_of reads told files s i a

  first_reads : (by : Bool) (xs : List X) (end : Option FrameFault) (taken : List ℕ)
      → IsTrue (first_step (course_of by told files s i a (xs, end, taken))).reads
  unfolding course_from judged_from
  first_reads false [] end taken = refl
  first_reads false (x ∷ xs) end taken = refl
  first_reads true [] end taken = refl
  first_reads true (x ∷ xs) end taken = refl

  pub reads_first : (stream : Stream X) → IsTrue (first_step (course stream)).reads
  reads_first stream = first_reads reads stream.0 stream.1 stream.2

  ends_by : (by : Bool) (end : Option FrameFault) (taken : List ℕ)
      → course_of by told files s i a ([], end, taken) ≡ taking taken (only_end (end_by i a (option_map fault_line end)))
  unfolding course_from judged_from
  ends_by false end taken = refl
  ends_by true end taken = refl

  module _ (stream : Stream X) (how : Ending) (before after : World) where
    at_end : (end : Option FrameFault) (size : ℕ) → stream ≡ ([], end, size ∷ [])
        → Works (taking (size ∷ []) (only_end (end_by i a (option_map fault_line end)))) how before after
        → Works (course stream) how before after
    at_end end size is = subst (λ c. Works c how before after) (sym (ap course is ∙ ends_by reads end (size ∷ [])))

    -- the stream is read to its end
    pub ended : (size : ℕ) → stream ≡ ([], None, size ∷ []) → (how ≡ ending.Ended verdict.Done (stream_line i a)) ⊎ (how ≡ ending.Memory)
        → TakesBytes size before.input after.input → IsIdle before after → Works (course stream) how before after
    ended size is last took idle = at_end None size is (ends (end_by i a None) (size ∷ []) how before after last took idle)

    refused : (e : FrameFault) (size : ℕ) → stream ≡ ([], Some e, size ∷ []) → IsRefusal (fault_line e) how
        → TakesBytes size before.input after.input → IsIdle before after → Works (course stream) how before after
    refused e size is last took idle =
        at_end (Some e) size is (ends (end_by i a (Some (fault_line e))) (size ∷ []) how before after last took idle)

    pub unread : how ≡ ending.ReadFault → FailedRead (first_size stream) before before after → IsIdle before after
        → Works (course stream) how before after
    unread is rose idle = subst (λ t. Works (course stream) t before after) (sym is)
        (read_fault_first (course stream) before after (reads_first stream) rose idle)

    -- no frame is read, since the stream is broken there, or a read failed, or memory is wanting
    pub broken : (e : FrameFault) (bytes : List ℕ) → before.input ≡ Some bytes
        → (size : ℕ) × (first_size stream ≡ size) × LeavesAt e size bytes after.input
        × IfSome (refusal e) (λ e'. stream ≡ ([], Some e', size ∷ []))
        → IsBroken e how → (e ≡ fault.Fault → Rose before.input_faults after.input_faults) → IsIdle before after
        → Works (course stream) how before after
    broken (fault.Header place) bytes was is last rose idle =
        refused (fault.Header place) is.0 is.3 last (taken_of is.0 bytes before.input after.input was is.2) idle
    broken (fault.Cut place) bytes was is last rose idle =
        refused (fault.Cut place) is.0 is.3 last (taken_of is.0 bytes before.input after.input was is.2) idle
    broken (fault.TooMany place) bytes was is last rose idle =
        refused (fault.TooMany place) is.0 is.3 last (taken_of is.0 bytes before.input after.input was is.2) idle
    broken fault.Fault bytes was is last rose idle =
        let left = is.2 in let size = is.1 in
        unread last (inr (rose refl, (left.0, omega (arith, left.1, size), taken_of left.0 bytes before.input after.input was left.2))) idle
    broken fault.Memory bytes was is last rose idle =
        let left = is.2 in let size = is.1 in
        subst (λ t. Works (course stream) t before after) (sym last) (memory_first (course stream) before after idle
        (left.0, omega (arith, left.1, size), taken_of left.0 bytes before.input after.input was left.2))

  -- the step of the first frame is done, or the work ends in it
  module _ (x : X) (size : ℕ) (stream more : Stream X) (before after : World) (is : stream ≡ with_first (Some x) size more)
      (took : TakesBytes size before.input after.input) where
    abbrev rest : (by : Bool) → Course
    rest by = course_of by told (files_after by (step_of (told files) s i x).files files) (next_of (told files) s x) (i + 1)
        (accepted_with (told files) s x a) more

    goes_on : (by : Bool) → course_of by told files s i a (with_first (Some x) size more)
        ≡ with_reading size (step_of (told files) s i x) (rest by)
    unfolding course_from judged_from
    goes_on false = refl
    goes_on true = refl

    pub done : StepIsDone (step_of (told files) s i x) before after → NeverFalls before after
        → Leads (course stream) (rest reads) before after
    done step falls = subst (λ c. Leads c (rest reads) before after) (sym (ap course is ∙ goes_on reads))
        (leads_on size (step_of (told files) s i x) (rest reads) before after step took falls)

    pub stopped : (how : Ending) → EndsIn (step_of (told files) s i x) how before after → Works (course stream) how before after
    stopped how (inl step) = subst (λ c. Works c how before after) (sym (ap course is ∙ goes_on reads))
        (stops size (step_of (told files) s i x) (rest reads) how before after step took)
    stopped how (inr fails) =
        let first = ap first_size is in
        unread stream how before after fails.0
        (inl (fails.1, inr (subst (λ k. TakesBytes k before.input after.input) (sym first) took)))
        (record { files = fails.2; report = fails.3; made = fails.4 })

-- the same of a run that goes on
module _ {S X : Type 0} (reads : Bool) (told : Files → Followed S X) (stream : FramePos → List ℕ → Stream X) (files : Files) where
  pub next_leads : (run next : Following S) (bytes rest : List ℕ) (x : X) (size : ℕ) (before mid : World)
      → stream run.at bytes ≡ with_first (Some x) size (stream next.at rest) → TakesBytes size before.input mid.input
      → next.at.frames ≡ run.at.frames + 1
      → next.live ≡ next_of (told files) run.live x → next.accepted ≡ accepted_with (told files) run.live x run.accepted
      → StepIsDone (step_of (told files) run.live run.at.frames x) before mid → NeverFalls before mid
      → Leads (rest_course reads told stream run files bytes) (rest_course reads told stream next
      (files_after reads (step_of (told files) run.live run.at.frames x).files files) rest) before mid
  next_leads run next bytes rest x size before mid is took counts live accepted step falls =
      let f = told files in let more = stream next.at rest in
      let later = files_after reads (step_of f run.live run.at.frames x).files files in
      let same : rest_course reads told stream next later rest ≡ course_of reads told later (next_of f run.live x) (run.at.frames + 1)
      (accepted_with f run.live x run.accepted) more =
      ap (λ s. course_of reads told later s next.at.frames next.accepted more) live
      ∙ ap (λ i. course_of reads told later (next_of f run.live x) i next.accepted more) counts
      ∙ ap (λ a. course_of reads told later (next_of f run.live x) (run.at.frames + 1) a more) accepted in
      subst (λ c. Leads (rest_course reads told stream run files bytes) c before mid) (sym same)
      (done reads told files run.live run.at.frames run.accepted x size (stream run.at bytes) more before mid is took step falls)

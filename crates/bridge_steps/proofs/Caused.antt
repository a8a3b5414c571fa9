-- Causes of how a run ends.
use Rattle.bridge_io.specs.declared.outside.Fail.TheVariants as fail
use Rattle.bridge_courses.specs.declared.status.Verdict.TheVariants as verdict
use Rattle.bridge_courses.specs.declared.ending.Ending.TheVariants as ending
use Rattle.bridge_jobs.specs.declared.frame.FrameFault.TheVariants as fault
use Rattle.std.proofs.Common.{◌≡◌, ◌⊎◌, ℕ, Bool, true, false, List, inl, inr, refl, sym, subst}
use Rattle.bridge_io.specs.Fault.{Rose}
use Rattle.bridge_jobs.specs.declared.frame.FrameFault.{FrameFault}
use Rattle.bridge_courses.specs.{declared.ending.Ending.Ending, Courses.World, Executions.NeverFalls, Steps.{IsCaused, IsCutOff}}
use Rattle.bridge_courses.proofs.{Statuses.rose_later, Stepping.caused_later}
use Rattle.bridge_report.specs.Outcomes.{IsRefusal}
use Rattle.bridge_steps.specs.Follow.{IsBroken, IsCausedBy, IsCausedByEither, fault_line}

-- ---- either cause

pub either : (told : Ending) (before after : World) → IsCaused told before after → IsCausedByEither told before after
either (ending.Ended v line) before after is = is
either ending.Words before after is = is
either ending.ReadFault before after is = inl is
either ending.WriteFault before after is = is
either ending.Memory before after is = is
either (ending.Cut f) before after is = is

pub either_later : (told : Ending) (before mid after : World) → NeverFalls before mid → IsCausedByEither told mid after
    → IsCausedByEither told before after
either_later (ending.Ended v line) before mid after falls is = is
either_later ending.Words before mid after falls is = is
either_later ending.ReadFault before mid after falls (inl rose) =
    inl (rose_later before.input_faults mid.input_faults after.input_faults falls.input rose)
either_later ending.ReadFault before mid after falls (inr rose) =
    inr (rose_later before.read_faults mid.read_faults after.read_faults falls.reads rose)
either_later ending.WriteFault before mid after falls is = caused_later ending.WriteFault before mid after falls is
either_later ending.Memory before mid after falls is = is
either_later (ending.Cut f) before mid after falls is = caused_later (ending.Cut f) before mid after falls is

-- ---- by whether frames are judged by files

module _ (told : Ending) (before : World) where
  pub caused_by : (reads : Bool) (after : World) → IsCaused told before after → IsCausedBy reads told before after
  caused_by false after is = is
  caused_by true after is = either told before after is

  pub caused_by_later : (reads : Bool) (mid after : World) → NeverFalls before mid → IsCausedBy reads told mid after
      → IsCausedBy reads told before after
  caused_by_later false mid after falls is = caused_later told before mid after falls is
  caused_by_later true mid after falls is = either_later told before mid after falls is

-- ---- the ends of a run

module _ (before after : World) where
  pub ended_caused : (told : Ending) (line : List ℕ) → (told ≡ ending.Ended verdict.Done line) ⊎ (told ≡ ending.Memory)
      → IsCaused told before after
  ended_caused told line (inl is) = subst (λ t. IsCaused t before after) (sym is) (λ e. absurd (cc))
  ended_caused told line (inr is) = subst (λ t. IsCaused t before after) (sym is) tt

  refusal_caused : (told : Ending) (line : List ℕ) → IsRefusal line told → IsCaused told before after
  refusal_caused told line (inl is) = subst (λ t. IsCaused t before after) (sym is) (λ e. absurd (cc))
  refusal_caused told line (inr is) = subst (λ t. IsCaused t before after) (sym is) tt

  pub broken_caused : (e : FrameFault) (told : Ending) → IsBroken e told → (e ≡ fault.Fault → Rose before.input_faults after.input_faults)
      → IsCaused told before after
  broken_caused (fault.Header place) told is rose = refusal_caused told (fault_line (fault.Header place)) is
  broken_caused (fault.Cut place) told is rose = refusal_caused told (fault_line (fault.Cut place)) is
  broken_caused (fault.TooMany place) told is rose = refusal_caused told (fault_line (fault.TooMany place)) is
  broken_caused fault.Fault told is rose = subst (λ t. IsCaused t before after) (sym is) (rose refl)
  broken_caused fault.Memory told is rose = subst (λ t. IsCaused t before after) (sym is) tt

  cut : (lines : List ℕ) (told : Ending) → IsCutOff lines told before.report_faults after.report_faults before.report after.report
      → IsCaused told before after
  cut lines (ending.Ended v line) is = absurd is
  cut lines ending.Words is = absurd is
  cut lines ending.ReadFault is = absurd is
  cut lines ending.WriteFault is = absurd is
  cut lines ending.Memory is = absurd is
  cut lines (ending.Cut fail.Failed) is = is.0
  cut lines (ending.Cut fail.Memory) is = tt

  pub cut_caused : (lines : List ℕ) (told : Ending) → ((told ≡ ending.Memory) × (after.report ≡ before.report))
      ⊎ IsCutOff lines told before.report_faults after.report_faults before.report after.report → IsCaused told before after
  cut_caused lines told (inl is) = subst (λ t. IsCaused t before after) (sym is.0) tt
  cut_caused lines told (inr is) = cut lines told is

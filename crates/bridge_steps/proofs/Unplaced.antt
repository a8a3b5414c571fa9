-- Work that ends before anything is done, since memory is wanting or a base is refused.
use Rattle.bridge_courses.specs.declared.ending.Ending.TheVariants as ending
use Rattle.bridge_courses.specs.declared.status.Verdict.TheVariants as verdict
use Rattle.bridge_report.specs.declared.refusal.Refusal.TheVariants as refusal
use Rattle.std.proofs.Common.{◌≡◌, Option, None, Some, inl, inr, refl, subst, sym, arith}
use Rattle.std.specs.{Option.ForSome, Prelude.codes}
use Rattle.bridge_courses.specs.{declared.ending.Ending.Ending, Courses.{Course, World}, Executions.NeverFalls, Steps.{IsCaused, Work}}
use Rattle.bridge_courses.proofs.Stepping.{memory_first, up_to_none}
use Rattle.bridge_report.specs.{Outcomes.{base_refused, course_by}, Refusals.refusal_line}
use Rattle.bridge_steps.specs.{Endings.IsUnplaced, Follow.course_placed}
use Rattle.bridge_steps.proofs.Works.{works}

pub stays : (w : World) → NeverFalls w w
stays w = record { input = omega arith; reads = omega arith; writes = omega arith; report = omega arith }

pub memory_worked : (course : Course) (w : World) → Work course ending.Memory w w
memory_worked course w =
    record {
      works = memory_first course w w (record { files = refl; report = refl; made = refl }) (up_to_none _ w.input w.input refl);
      never_falls = stays w;
    }

refused_worked : (w : World) → Work (course_by base_refused) (ending.Ended verdict.Refused (refusal_line (codes "-") refusal.Base)) w w
refused_worked w = record {
  works = works base_refused (ending.Ended verdict.Refused (refusal_line (codes "-") refusal.Base)) w w (refl, refl, refl)
      (λ is. absurd (cc)) (λ is. absurd (cc)) refl refl (λ counts. refl);
  never_falls = stays w;
}

-- a job whose file has no place, since its base is refused
pub unplaced_worked : {P : Type 0} (place : Option P) (at : P → Option Course) (told : Ending) (w : World) → IsUnplaced place told
    → ForSome (course_placed at place) (λ course. Work course told w w)
unplaced_worked None at told w (inl (none, inl refused)) =
    λ course is. subst (λ t. Work course t w w) (sym refused) (subst (λ c. Work c (ending.Ended verdict.Refused (refusal_line (codes "-")
    refusal.Base)) w w) (let same : course_by base_refused ≡ course = cc in same) (refused_worked w))
unplaced_worked None at told w (inl (none, inr memory)) =
    λ course is. subst (λ t. Work course t w w) (sym memory) (memory_worked course w)
unplaced_worked (Some found) at told w (inl (none, refused)) = absurd (cc)
unplaced_worked place at told w (inr memory) = λ course is. subst (λ t. Work course t w w) (sym memory) (memory_worked course w)

pub unplaced_caused : {P : Type 0} (place : Option P) (told : Ending) (w : World) → IsUnplaced place told → IsCaused told w w
unplaced_caused place told w (inl (none, inl refused)) = subst (λ t. IsCaused t w w) (sym refused) (λ is. absurd (cc))
unplaced_caused place told w (inl (none, inr memory)) = subst (λ t. IsCaused t w w) (sym memory) tt
unplaced_caused place told w (inr memory) = subst (λ t. IsCaused t w w) (sym memory) tt

-- a job whose file has a place
pub placed_worked : {P : Type 0} (place : Option P) (found : P) (at : P → Option Course) (told : Ending) (before after : World)
    → place ≡ Some found
    → ForSome (at found) (λ course. Work course told before after)
    → ForSome (course_placed at place) (λ course. Work course told before after)
placed_worked place found at told before after is work =
    subst (λ p. ForSome (course_placed at p) (λ course. Work course told before after)) (sym is) work

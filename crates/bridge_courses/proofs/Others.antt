-- Files that a course doesn't name stay as they are.
use Rattle.bridge_io.specs.declared.outside.Fail.TheVariants as fail
use Rattle.bridge_courses.specs.declared.ending.Ending.TheVariants as ending
use Rattle.bridge_courses.specs.declared.status.Verdict.TheVariants as verdict
use Rattle.std.proofs.Common.{◌≡◌, ◌≢◌, ℕ, Bool, true, false, List, [], ◌∷◌, ◌++◌, take, length, Option, None, Some, option_map, slice_get}
use Rattle.std.proofs.{Common.{flat_map, All, bytes_eq, inl, inr, refl, sym, ◌∙◌, ap, subst}, lemmas.List.Elements.{All-nil, All-head}}
use Rattle.std.proofs.{lemmas.List.Elements.{All-tail, All-take, All-append, All-push, All-get_or}, lemmas.Option.slice_get_cases}
use Rattle.std.proofs.lemmas.Slice.Eq.{bytes_eq-Decides}
use Rattle.bridge_io.specs.{Outside.{Files, put, Changes}, InOrder.{put_all, MayBegin, AreBegun}}
use Rattle.bridge_courses.specs.{declared.ending.Ending.Ending, Courses.{Step, Course, World, files_to, last_step, Reaches}}
use Rattle.bridge_courses.specs.{declared.status.Verdict.Verdict, Executions.{Works, Finishes, WantsMemory, FailsTelling, words_line}}
use Rattle.bridge_courses.specs.Laws.{IsAnother, IsNotIn, IsElsewhere}

-- told files are told again, with the same file of this name
pub record Keeps (name : List ℕ) (before after : Option Files) : Type 0 where
  pub change : Files → Files
  pub made : after ≡ option_map change before
  pub same : (files : Files) → change files name ≡ files name

pub Keeps_same : (name : List ℕ) (before after : Option Files) → after ≡ before → Keeps name before after
Keeps_same name None after e = record { change = λ files. files; made = e; same = λ files. refl }
Keeps_same name (Some files) after e = record { change = λ files. files; made = e; same = λ files. refl }

pub Keeps-then : (name : List ℕ) (before mid after : Option Files) → Keeps name before mid → Keeps name mid after → Keeps name before after
Keeps-then name None mid after one two = record {
  change = one.change;
  made = two.made ∙ ap (option_map two.change) one.made;
  same = one.same;
}
Keeps-then name (Some files) mid after one two = record {
  change = λ files. two.change (one.change files);
  made = two.made ∙ ap (option_map two.change) one.made;
  same = λ files. two.same (one.change files) ∙ one.same files;
}

pub Keeps_read : (name : List ℕ) (before after : Option Files) (first last : Files) → Keeps name before after → before ≡ Some first
    → after ≡ Some last → last name ≡ first name
Keeps_read name before after first last keeps b a =
    let e : Some last ≡ Some (keeps.change first) = sym a ∙ keeps.made ∙ ap (option_map keeps.change) b in
    let same : last ≡ keeps.change first = cc in
    ap (λ files. files name) same ∙ keeps.same first

false_from_not : (b : Bool) → (b ≡ true → ⊥) → b ≡ false
false_from_not true h = absurd (h refl)
false_from_not false h = refl

put_other : (file name bytes : List ℕ) (files : Files) → file ≢ name → put file bytes files name ≡ files name
put_other file name bytes files other = let apart : bytes_eq file name ≡ false =
    false_from_not (bytes_eq file name) (λ is. other ((bytes_eq-Decides file name).0 is)) in rw apart refl

put_all_other : (name : List ℕ) (fs : List (List ℕ × List ℕ)) (files : Files) → All (IsAnother name) fs → put_all fs files name ≡ files name
put_all_other name [] files others = refl
put_all_other name (f ∷ fs) files others = put_all_other name fs (put f.0 f.1 files) (All-tail (IsAnother name) f fs others)
    ∙ put_other f.0 name f.1 files (All-head (IsAnother name) f fs others)

Keeps-put_all : (name : List ℕ) (fs : List (List ℕ × List ℕ)) (before after : Option Files) → All (IsAnother name) fs
    → Changes (put_all fs) before after → Keeps name before after
Keeps-put_all name fs before after others changes = record {
  change = put_all fs;
  made = changes;
  same = λ files. put_all_other name fs files others;
}

All-flat : (name : List ℕ) (steps : List Step) → All (IsNotIn name) steps → All (IsAnother name) (flat_map (λ step. step.files) steps)
All-flat name [] others = All-nil (IsAnother name)
All-flat name (step ∷ steps) others = All-append (IsAnother name) step.files (flat_map (λ step. step.files) steps)
    (All-head (IsNotIn name) step steps others) (All-flat name steps (All-tail (IsNotIn name) step steps others))

-- the member at a place has what each member has
All-at : {X : Type 0} (P : X → Type 0) (xs : List X) (n : ℕ) (x : X) → All P xs → slice_get xs n ≡ Some x → P x
All-at P xs n x each is = elim (slice_get_cases xs n).1 [
  | inl (y, within, found, read) ↦ let same : y ≡ x = cc in subst P (read ∙ same) (All-get_or P xs n y within each)
  | inr past ↦ absurd (let none = past.1 in cc)
]

module _ (name : List ℕ) (course : Course) (others : IsElsewhere name course) where
  Keeps-reaches : (before mid : World) (step : Step) → Reaches course before mid step → Keeps name before.files mid.files
  Keeps-reaches before mid step reaches = Keeps-put_all name (files_to reaches.n course) before.files mid.files
      (All-flat name (take reaches.n course.steps) (All-take (IsNotIn name) reaches.n course.steps others)) reaches.whole.files

  step_others : (before mid : World) (step : Step) → Reaches course before mid step → IsNotIn name step
  step_others before mid step reaches = All-at (IsNotIn name) (course.steps ++ last_step course.end ∷ []) reaches.n step
      (All-push (IsNotIn name) course.steps (last_step course.end) others (All-nil (IsAnother name))) reaches.next

  Keeps-may_begin : (file : List ℕ × List ℕ) (before after : Option Files) → file.0 ≢ name → MayBegin file before after
      → Keeps name before after
  Keeps-may_begin file before after other (inl same) = Keeps_same name before after same
  Keeps-may_begin file before after other (inr front) = record {
    change = put file.0 (take front.0 file.1);
    made = front.1;
    same = λ files. put_other file.0 name (take front.0 file.1) files other;
  }

  Keeps-begun : (fs : List (List ℕ × List ℕ)) (before after : Option Files) → All (IsAnother name) fs → AreBegun fs before after
      → Keeps name before after
  Keeps-begun fs before after elsewhere begun = Keeps-then name before (option_map (put_all (take begun.count fs)) before) after
      (Keeps-put_all name (take begun.count fs) before (option_map (put_all (take begun.count fs)) before)
      (All-take (IsAnother name) begun.count fs elsewhere) refl)
      (Keeps-may_begin begun.file (option_map (put_all (take begun.count fs)) before) after
      (All-at (IsAnother name) fs begun.count begun.file elsewhere begun.next) begun.begun)

  -- from where a step is reached on
  Keeps-on : (before mid after : World) (step : Step) → Reaches course before mid step → Keeps name mid.files after.files
      → Keeps name before.files after.files
  Keeps-on before mid after step reaches later = Keeps-then name before.files mid.files after.files
      (Keeps-reaches before mid step reaches) later

  Keeps-wanting : (before after : World) → WantsMemory course before after → Keeps name before.files after.files
  Keeps-wanting before after works = Keeps-on before works.mid after works.step works.reaches (elim works.left [
    | inl none ↦ Keeps_same name works.mid.files after.files none.0
    | inr (inl begun, made, input) ↦ Keeps-begun works.step.files works.mid.files after.files
        (step_others before works.mid works.step works.reaches) begun
    | inr (inr changes, made, input) ↦ Keeps-put_all name works.step.files works.mid.files after.files
        (step_others before works.mid works.step works.reaches) changes
  ])

  Keeps-telling : (before after : World) → FailsTelling course before after → Keeps name before.files after.files
  Keeps-telling before after works = Keeps-on before works.mid after works.step works.reaches
      (Keeps-put_all name works.step.files works.mid.files after.files (step_others before works.mid works.step works.reaches) works.files)

  Keeps-finishing : (v : Verdict) (line : List ℕ) (before after : World) → Finishes course v line before after
      → Keeps name before.files after.files
  Keeps-finishing v line before after works = Keeps-put_all name (files_to (length course.steps) course) before.files after.files
      (All-flat name (take (length course.steps) course.steps) (All-take (IsNotIn name) (length course.steps) course.steps others))
      works.whole.files

  pub Keeps-works : (told : Ending) (before mid : World) → Works course told before mid → Keeps name before.files mid.files
  Keeps-works (ending.Ended v line) before mid works = Keeps-finishing v line before mid works
  Keeps-works ending.Words before mid works = Keeps-finishing verdict.Words words_line before mid works
  Keeps-works ending.ReadFault before mid works = Keeps-on before works.mid mid works.step works.reaches
      (Keeps_same name works.mid.files mid.files works.files)
  Keeps-works ending.WriteFault before mid works = Keeps-on before works.mid mid works.step works.reaches
      (Keeps-begun works.step.files works.mid.files mid.files (step_others before works.mid works.step works.reaches) works.files)
  Keeps-works ending.Memory before mid works = Keeps-wanting before mid works
  Keeps-works (ending.Cut fail.Failed) before mid works = Keeps-telling before mid works.0
  Keeps-works (ending.Cut fail.Memory) before mid works = Keeps-telling before mid works

-- The laws of followed presentations.
use Rattle.std.proofs.Common.{◌≡◌, ℕ, zero, suc, ◌+◌, true, List, [], ◌∷◌, ◌++◌, take, Option, None, Some, refl, sym, ap, ◌∙◌}
use Rattle.bridge_io.specs.{Outside.{Files, Changes}, InOrder.put_all}
use Rattle.bridge_courses.specs.{Courses.{Step, files_to}, Steps.with_step}
use Rattle.bridge_courses.proofs.Stepping.{put_all-both}
use Rattle.bridge_report.specs.Following.{Followed, unless_refused, line_by, step_of, next_of, accepted_with, course_from, judged_from}
use Rattle.bridge_report.specs.Laws.{Mirrors}
use Rattle.bridge_report.specs.Laws.{MirrorsHaveOneCourse, accepted_in, state_after, files_along, FilesAreOfAccepted, IsRewritten}
use Rattle.bridge_report.specs.Laws.{FileIsOfAccepted, JudgedAlike}

module _ {S X : Type 0} (f : Followed S X) where
  files_along-by : (refusal : Option (List ℕ)) (s : S) (x : X) (more less : List X)
      → files_along f s (unless_refused refusal (x ∷ more) less) ≡ unless_refused refusal (f.files (f.after s x)) []
      ++ files_along f (unless_refused refusal (f.after s x) s) (unless_refused refusal more less)
  files_along-by None s x more less = refl
  files_along-by (Some told) s x more less = refl

  accepted_next : (refusal : Option (List ℕ)) (s : S) (x : X) (xs : List X)
      → unless_refused refusal (accepted_in f (f.after s x) xs) (accepted_in f s xs)
      ≡ accepted_in f (unless_refused refusal (f.after s x) s) xs
  accepted_next None s x xs = refl
  accepted_next (Some told) s x xs = refl

  pub files_of_accepted : (s : S) (i a : ℕ) (xs : List X) (fault : Option (List ℕ)) (n : ℕ)
      → files_to n (course_from f s i a xs fault) ≡ files_along f s (accepted_in f s (take n xs))
  unfolding course_from
  files_of_accepted s i a [] fault zero = refl
  files_of_accepted s i a [] fault (suc n) = refl
  files_of_accepted s i a (x ∷ xs) fault zero = refl
  files_of_accepted s i a (x ∷ xs) fault (suc n) =
      ap (λ files. unless_refused (f.refusal s x) (f.files (f.after s x)) [] ++ files)
      (files_of_accepted (next_of f s x) (i + 1) _ xs fault n
      ∙ ap (files_along f (next_of f s x)) (sym (accepted_next (f.refusal s x) s x (take n xs))))
      ∙ sym (files_along-by (f.refusal s x) s x (accepted_in f (f.after s x) (take n xs)) (accepted_in f s (take n xs)))

  rewritten_along : (name : List ℕ) (text : S → List ℕ) → IsRewritten f name text → (s : S) (x : X) (more : List X) (files : Files)
      → put_all (files_along f s (x ∷ more)) files name ≡ Some (text (state_after f s (x ∷ more)))
  rewritten_along name text each s x [] files = ap (λ all. all name) (put_all-both (f.files (f.after s x)) [] files) ∙ each s x files
  rewritten_along name text each s x (y ∷ more) files =
      ap (λ all. all name) (put_all-both (f.files (f.after s x)) (files_along f (f.after s x) (y ∷ more)) files)
      ∙ rewritten_along name text each (f.after s x) y more (put_all (f.files (f.after s x)) files)

  pub file_of_accepted : (name : List ℕ) (text : S → List ℕ) → IsRewritten f name text
      → (s : S) (i a : ℕ) (xs : List X) (fault : Option (List ℕ)) (n : ℕ) (x : X) (more : List X) (first last : Files)
      → accepted_in f s (take n xs) ≡ x ∷ more → Changes (put_all (files_to n (course_from f s i a xs fault))) (Some first) (Some last)
      → last name ≡ Some (text (state_after f s (x ∷ more)))
  file_of_accepted name text each s i a xs fault n x more first last is changes =
      let all = files_of_accepted s i a xs fault n ∙ ap (files_along f s) is in
      let same : last ≡ put_all (files_to n (course_from f s i a xs fault)) first = cc in
      ap (λ files. files name) same ∙ ap (λ fs. put_all fs first name) all ∙ rewritten_along name text each s x more first

pub files_are : {S X : Type 0} → FilesAreOfAccepted S X
files_are = files_of_accepted

pub file_is : {S X : Type 0} → FileIsOfAccepted S X
file_is = file_of_accepted

-- ---- two ways to tell the same

abbrev stepped : (refusal : Option (List ℕ)) (files : List (List ℕ × List ℕ)) (appended makes i : ℕ) → Step
stepped refusal files appended makes i = record {
  files = unless_refused refusal files [];
  lines = line_by i appended refusal;
  least = unless_refused refusal makes 0;
  most = makes;
  reads = true;
}

module _ {S T X : Type 0} (f : Followed S X) (g : Followed T X) (left : S → T) (mirrors : (s : S) (x : X) → Mirrors f g left s x) where
  chosen : (refusal : Option (List ℕ)) (s : S) (x : X) → left (unless_refused refusal (f.after s x) s)
      ≡ unless_refused refusal (left (f.after s x)) (left s)
  chosen None s x = refl
  chosen (Some told) s x = refl

  next_mirrored : (s : S) (x : X) → left (next_of f s x) ≡ next_of g (left s) x
  next_mirrored s x = chosen (f.refusal s x) s x ∙ ap (λ r. unless_refused r (left (f.after s x)) (left s)) (mirrors s x).refusal
      ∙ ap (λ t. unless_refused (g.refusal (left s) x) t (left s)) (mirrors s x).after

  pub one_course : (s : S) (i a : ℕ) (xs : List X) (fault : Option (List ℕ)) → course_from f s i a xs fault
      ≡ course_from g (left s) i a xs fault
  unfolding course_from
  one_course s i a [] fault = refl
  one_course s i a (x ∷ xs) fault = let m = mirrors s x in
      let step : step_of f s i x ≡ step_of g (left s) i x =
      ap (λ r. stepped r (f.files (f.after s x)) (f.appended s x) (f.makes s x) i) m.refusal
      ∙ ap (λ fs. stepped (g.refusal (left s) x) fs (f.appended s x) (f.makes s x) i) m.files
      ∙ ap (λ n. stepped (g.refusal (left s) x) (g.files (g.after (left s) x)) n (f.makes s x) i) m.appended
      ∙ ap (λ n. stepped (g.refusal (left s) x) (g.files (g.after (left s) x)) (g.appended (left s) x) n i) m.makes in
      let rest : course_from f (next_of f s x) (i + 1) (accepted_with f s x a) xs fault
      ≡ course_from g (next_of g (left s) x) (i + 1) (accepted_with g (left s) x a) xs fault =
      one_course (next_of f s x) (i + 1) (accepted_with f s x a) xs fault
      ∙ ap (λ t. course_from g t (i + 1) (accepted_with f s x a) xs fault) (next_mirrored s x)
      ∙ ap (λ r. course_from g (next_of g (left s) x) (i + 1) (unless_refused r (a + 1) a) xs fault) m.refusal in
      ap (λ st. with_step st (course_from f (next_of f s x) (i + 1) (accepted_with f s x a) xs fault)) step
      ∙ ap (with_step (step_of g (left s) i x)) rest

pub mirrored : {S T X : Type 0} → MirrorsHaveOneCourse S T X
mirrored = one_course

-- ---- files that don't matter

pub judged_alike : {S X : Type 0} → JudgedAlike S X
unfolding course_from judged_from
judged_alike f files s i a [] fault = refl
judged_alike f files s i a (x ∷ xs) fault = ap (with_step (step_of f s i x))
    (judged_alike f (put_all (step_of f s i x).files files) (next_of f s x) (i + 1) (accepted_with f s x a) xs fault)

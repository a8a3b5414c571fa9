-- The steps of a followed presentation, and how many segments they make.
use Rattle.std.proofs.Common.{◌≡◌, ◌+◌, ℕ, zero, suc, IsTrue, List, [], ◌∷◌, ◌++◌, length, take, Option, None, Some, refl, sym, ap, ◌∙◌}
use Rattle.std.proofs.{Common.arith, lemmas.List.Sums.sum_by-cons}
use Rattle.std.specs.Prelude.{slice_get, sum_by}
use Rattle.bridge_courses.specs.Courses.{Step}
use Rattle.bridge_report.specs.Following.{Followed, accepted_with, course_from, next_of, step_of, unless_refused, verdict_by}
use Rattle.laws_of_jobs.specs.Counts.{appended_along, refused_along}

-- ---- sums over steps

-- with the step behind the first n; the last one makes nothing
pub sum_next : (g : Step → ℕ) (steps : List Step) (last : Step) (n : ℕ) (step : Step) → slice_get (steps ++ last ∷ []) n ≡ Some step
    → g last ≡ 0 → sum_by g (take (suc n) steps) ≡ sum_by g (take n steps) + g step
sum_next g [] last zero step is none = (let same : last ≡ step = cc in omega (arith, none, ap g same))
sum_next g [] last (suc n) step is none = absurd (cc)
sum_next g (s ∷ steps) last zero step is none = (let same : s ≡ step = cc in omega (arith, ap g same, sum_by-cons g s (take 0 steps)))
sum_next g (s ∷ steps) last (suc n) step is none =
    omega (arith, sum_next g steps last n step is none, sum_by-cons g s (take n steps), sum_by-cons g s (take (suc n) steps))

-- ---- courses of followed presentations

module _ {S X : Type 0} (f : Followed S X) where
  parts : (r : Option (List ℕ)) (m : ℕ) → unless_refused r m 0 + unless_refused r 0 m ≡ m
  parts None m = omega arith
  parts (Some told) m = omega arith

  -- an accepted one makes as many segments as its line tells
  module _ (tells : (s : S) (x : X) → f.appended s x ≡ f.makes s x) where
    pub least_is : (s : S) (i a : ℕ) (xs : List X) (fault : Option (List ℕ)) (n : ℕ)
        → sum_by (λ step. step.least) (take n (course_from f s i a xs fault).steps) ≡ appended_along f s (take n xs)
    unfolding course_from
    least_is s i a [] fault zero = refl
    least_is s i a [] fault (suc n) = refl
    least_is s i a (x ∷ xs) fault zero = refl
    least_is s i a (x ∷ xs) fault (suc n) =
        sum_by-cons (λ step. step.least) (step_of f s i x)
        (take n (course_from f (next_of f s x) (i + 1) (accepted_with f s x a) xs fault).steps)
        ∙ ap (λ k. unless_refused (f.refusal s x) (f.makes s x) 0 + k) (least_is (next_of f s x) (i + 1) (accepted_with f s x a) xs fault n)
        ∙ ap (λ m. unless_refused (f.refusal s x) m 0 + appended_along f (next_of f s x) (take n xs)) (sym (tells s x))

    pub most_is : (s : S) (i a : ℕ) (xs : List X) (fault : Option (List ℕ)) (n : ℕ)
        → sum_by (λ step. step.most) (take n (course_from f s i a xs fault).steps)
        ≡ appended_along f s (take n xs) + refused_along f s (take n xs)
    unfolding course_from
    most_is s i a [] fault zero = refl
    most_is s i a [] fault (suc n) = refl
    most_is s i a (x ∷ xs) fault zero = refl
    most_is s i a (x ∷ xs) fault (suc n) =
        omega (
          arith,
          sum_by-cons (λ step. step.most) (step_of f s i x)
              (take n (course_from f (next_of f s x) (i + 1) (accepted_with f s x a) xs fault).steps),
          most_is (next_of f s x) (i + 1) (accepted_with f s x a) xs fault n,
          parts (f.refusal s x) (f.makes s x),
          ap (λ m. unless_refused (f.refusal s x) m 0) (tells s x),
        )

  pub as_many_steps : (s : S) (i a : ℕ) (xs : List X) (fault : Option (List ℕ)) → length (course_from f s i a xs fault).steps ≡ length xs
  unfolding course_from
  as_many_steps s i a [] fault = refl
  as_many_steps s i a (x ∷ xs) fault = ap suc (as_many_steps (next_of f s x) (i + 1) (accepted_with f s x a) xs fault)

  pub it_counts : (s : S) (i a : ℕ) (xs : List X) (fault : Option (List ℕ)) → IsTrue (course_from f s i a xs fault).counts
  unfolding course_from
  it_counts s i a [] fault = refl
  it_counts s i a (x ∷ xs) fault = it_counts (next_of f s x) (i + 1) (accepted_with f s x a) xs fault

  pub its_verdict : (s : S) (i a : ℕ) (xs : List X) (fault : Option (List ℕ))
      → (course_from f s i a xs fault).end.verdict ≡ verdict_by fault
  unfolding course_from
  its_verdict s i a [] fault = refl
  its_verdict s i a (x ∷ xs) fault = its_verdict (next_of f s x) (i + 1) (accepted_with f s x a) xs fault

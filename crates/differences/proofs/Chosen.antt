-- The sections in which some track has content.
use Rattle.std.proofs.Common.{◌≡◌, ℕ, zero, suc, ◌+◌, ◌-◌, ◌<◌, ◌≤◌, Bool, true, false, List, [], ◌∷◌, ◌++◌, cond, filter, length, map}
use Rattle.std.proofs.lemmas.List.Elements.{All-cons, All-nil}
use Rattle.std.proofs.Common.{All, Option, None, Some}
use Rattle.std.proofs.lemmas.Bool.Decides.{nat_tests}
use Rattle.std.proofs.Common.{append_assoc, refl, sym, ◌∙◌, ap, arith}
use Rattle.std.specs.{Prelude.{◌||◌, is_some, nat_lt, option_and_then}, List.range_with_len, Option.option_map_or}
use Rattle.meaning.specs.Meanings.{Entry}
use Rattle.url_parts.specs.declared.address.Part.{Part}
use Rattle.timeline.specs.Expansions.{SegmentTimeline, Timing}
use Rattle.presentation.specs.{declared.parts.Content.Content, Meanings.{entry_at, entry_of, entry_with, is_kept}}
use Rattle.presentation.specs.Presented.{Presented, content_at, listed_at, listed_in, window_of}
use Rattle.differences.specs.Sections.{has_content, kept_sections}

-- ---- numbers of a range that pass a test

module _ (test : ℕ → Bool) where
  below_if : (chosen : Bool) (x n : ℕ) (xs : List ℕ) → x < n → All (λ y. y < n) xs → All (λ y. y < n) (cond chosen (x ∷ xs) xs)
  below_if true x n xs first later = All-cons (λ y. y < n) x xs first later
  below_if false x n xs first later = later

  below : (first m n : ℕ) → first + m ≤ n → All (λ y. y < n) (filter test (range_with_len first m))
  below first zero n fits = All-nil (λ y. y < n)
  below first (suc m) n fits = below_if (test first) first n (filter test (range_with_len (first + 1) m)) (omega (arith, fits))
      (below (first + 1) m n (omega (arith, fits)))

  -- the numbers before i are chosen, and i is tried
  module _ (i n : ℕ) (within : i < n) (chosen whole : List ℕ)
      (so_far : whole ≡ chosen ++ filter test (range_with_len i (n - i))) where
    tried : whole ≡ chosen ++ cond (test i) (i ∷ filter test (range_with_len (i + 1) (n - (i + 1)))) (filter test (range_with_len (i + 1)
        (n - (i + 1))))
    tried = so_far ∙ ap (λ m. chosen ++ filter test (range_with_len i m)) (let e : n - i ≡ suc (n - (i + 1)) = omega (arith, within) in e)

    by_test : (passes : Bool) (rest : List ℕ) → chosen ++ cond passes (i ∷ rest) rest ≡ cond passes (chosen ++ i ∷ []) chosen ++ rest
    by_test true rest = sym (append_assoc chosen (i ∷ []) rest)
    by_test false rest = refl

    pub with_next : whole ≡ cond (test i) (chosen ++ i ∷ []) chosen ++ filter test (range_with_len (i + 1) (n - (i + 1)))
    with_next = tried ∙ by_test (test i) (filter test (range_with_len (i + 1) (n - (i + 1))))

pub within_sections : (p : Presented) → All (λ s. s < length p.sections) (kept_sections p)
within_sections p = below (has_content p) 0 (length p.sections) (length p.sections) (omega arith)

-- ---- a track has content exactly where it lists a segment

some_with : (initialization : Part) (timeline : SegmentTimeline) (xs : List Timing)
    → is_some (entry_with initialization timeline xs) ≡ nat_lt 0 (length xs)
some_with initialization timeline [] = refl
some_with initialization timeline (x ∷ xs) = let e : 0 < length (x ∷ xs) = omega arith in grind (arith, nat_tests)

some_in : (p : Presented) (s : ℕ) (o : Option Content)
    → is_some (option_and_then (entry_of (window_of p s)) o)
    ≡ nat_lt 0 (length (option_map_or (λ content. listed_in (window_of p s) content.runs) o []))
some_in p s None = refl
some_in p s (Some content) = some_with content.initialization content.runs (listed_in (window_of p s) content.runs)

pub has_entry : (p : Presented) (s t : ℕ) → is_some (entry_at p s t) ≡ nat_lt 0 (length (listed_at p s t))
has_entry p s t = some_in p s (content_at p s t)

-- ---- tracks from one on

module _ (f : ℕ → Option Entry) (i n : ℕ) (within : i < n) (whole : Bool)
    (so_far : whole ≡ is_kept (map f (range_with_len i (n - i)))) where
  next : whole ≡ (is_some (f i) || is_kept (map f (range_with_len (i + 1) (n - (i + 1)))))
  next = so_far ∙ ap (λ m. is_kept (map f (range_with_len i m))) (let e : n - i ≡ suc (n - (i + 1)) = omega (arith, within) in e)

  pub not_kept : is_some (f i) ≡ false → whole ≡ is_kept (map f (range_with_len (i + 1) (n - (i + 1))))
  not_kept is = next ∙ ap (λ b. b || is_kept (map f (range_with_len (i + 1) (n - (i + 1))))) is

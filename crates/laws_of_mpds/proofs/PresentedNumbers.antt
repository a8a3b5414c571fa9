-- The numbers of the sections of tracks that have the same ones.
use Rattle.std.proofs.Common.{◌≡◌, ℕ, suc, ◌+◌, ◌<◌, ◌≤◌, ◌||◌, Bool, true, false, cond, eqb, List, [], ◌∷◌, length, All, refl, sym, ◌∙◌}
use Rattle.std.proofs.{Common.{ap, subst, ⊎_elim, arith}, lemmas.Bool.{cases_lt, eq-eqb, eqb-true, ne_eqb, or_from}}
use Rattle.std.proofs.lemmas.List.Elements.{All-head, All-tail}
use Rattle.std.specs.{Prelude.slice_index, List.list_any, List.Sorted.IsStrictlyIncreasing}
use Rattle.hls_media.specs.declared.media.MediaSegment.{MediaSegment}
use Rattle.hls_meaning.specs.Sections.{is_in}
use Rattle.hls_presentation.specs.Sections.{groups_of, put_before}
use Rattle.laws_of_mpds.proofs.PresentedApart.{AreApart, heads}

abbrev pub has : ℕ → List ℕ → Bool
has number numbers = list_any (λ n. eqb n number) numbers

abbrev pub RisesFrom : ℕ → List ℕ → Type 0
RisesFrom low [] = Unit {0}
RisesFrom low (n ∷ later) = (low ≤ n) × RisesFrom (n + 1) later

increasing : (low : ℕ) (xs : List ℕ) → (0 < length xs → low ≤ slice_index xs 0) → IsStrictlyIncreasing xs → RisesFrom low xs
increasing low [] least rises = tt
increasing low (x ∷ xs) least rises = (
  least (omega arith),
  increasing (x + 1) xs (λ some. (let first : slice_index (x ∷ xs) 0 < slice_index (x ∷ xs) (0 + 1) = rises 0 (omega (arith, some)) in
      omega (arith, first)))
      (λ k within. (let moved : suc k + 1 ≡ suc (k + 1) = omega arith in
      subst (λ j. slice_index xs k < slice_index (x ∷ xs) j) moved (rises (suc k) (omega (arith, within))))),
)

pub rises_from : (xs : List ℕ) → IsStrictlyIncreasing xs → RisesFrom 0 xs
rises_from xs rises = increasing 0 xs (λ some. omega arith) rises

pub heads_rise : (low : ℕ) (groups : List (List MediaSegment)) → AreApart low groups → RisesFrom low (heads groups)
heads_rise low [] apart = tt
heads_rise low ([] ∷ groups) apart = absurd apart
heads_rise low ((s ∷ rest) ∷ groups) apart = (apart.0, heads_rise (s.section + 1) groups apart.1.1)

-- ---- rising numbers are known by which they are

none_before : (number low : ℕ) (xs : List ℕ) → RisesFrom low xs → number < low → has number xs ≡ false
none_before number low [] rises before = refl
none_before number low (x ∷ xs) rises before =
    or_from (eqb x number) (has number xs) (ne_eqb x number (λ same. absurd (omega (arith, rises.0))))
    (none_before number (x + 1) xs rises.1 (omega (arith, rises.0)))

found : (x : ℕ) (xs : List ℕ) → has x (x ∷ xs) ≡ true
found x xs = ap (λ b. b || has x xs) (eq-eqb x x refl)

pass : (n x : ℕ) (xs : List ℕ) → (x ≡ n → ⊥) → has n (x ∷ xs) ≡ has n xs
pass n x xs other = ap (λ b. b || has n xs) (ne_eqb x n other)

-- none of them is below the first of the others
not_below : (x y : ℕ) (xs ys : List ℕ) → RisesFrom (y + 1) ys → has x (x ∷ xs) ≡ has x (y ∷ ys) → x < y → ⊥
not_below x y xs ys rises same less =
    let none : has x (y ∷ ys) ≡ false = none_before x y (y ∷ ys) (omega arith, rises) less in
    absurd (let one = found x xs in cc)

pub unique : (low : ℕ) (xs ys : List ℕ) → RisesFrom low xs → RisesFrom low ys → ((n : ℕ) → has n xs ≡ has n ys) → xs ≡ ys
unique low [] [] rises others same = refl
unique low [] (y ∷ ys) rises others same = absurd (let one = found y ys in let other = same y in cc)
unique low (x ∷ xs) [] rises others same = absurd (let one = found x xs in let other = same x in cc)
unique low (x ∷ xs) (y ∷ ys) rises others same =
    let one : x < y → ⊥ = not_below x y xs ys others.1 (same x) in
    let two : y < x → ⊥ = not_below y x ys xs rises.1 (sym (same y)) in
    let is : x ≡ y = omega (arith, one, two) in
    let both : RisesFrom (x + 1) ys = subst (λ n. RisesFrom (n + 1) ys) (sym is) others.1 in
    ap (λ n. n ∷ xs) is ∙ ap (λ ns. y ∷ ns) (unique (x + 1) xs ys rises.1 both (λ n. ⊎_elim
    (λ before. none_before n (x + 1) xs rises.1 (omega (arith, before)) ∙ sym (none_before n (x + 1) ys both (omega (arith, before))))
    (λ after. sym (pass n x xs (λ equal. omega (arith, equal, after))) ∙ same n ∙ pass n y ys (λ equal. omega (arith, equal, after, is)))
    (cases_lt n (x + 1))))

-- ---- which they are

put_has : (n : ℕ) (s : MediaSegment) (groups : List (List MediaSegment)) → has n (heads (put_before s groups))
    ≡ eqb s.section n || has n (heads groups)
put_has n s [] = refl
put_has n s ([] ∷ groups) = refl
put_has n s ((next ∷ rest) ∷ groups) = by (eqb s.section next.section) refl
  where
    twice : (a b : Bool) → a || b ≡ a || (a || b)
    twice true b = refl
    twice false b = refl

    by : (b : Bool) → eqb s.section next.section ≡ b
        → has n (heads (cond b ((s ∷ next ∷ rest) ∷ groups) ((s ∷ []) ∷ (next ∷ rest) ∷ groups)))
        ≡ eqb s.section n || (eqb next.section n || has n (heads groups))
    by true is = twice (eqb s.section n) (has n (heads groups))
        ∙ ap (λ k. eqb s.section n || (eqb k n || has n (heads groups))) (eqb-true s.section next.section is)
    by false is = refl

pub told : (n : ℕ) (segments : List MediaSegment) → list_any (is_in n) segments ≡ has n (heads (groups_of segments))
told n [] = refl
told n (s ∷ rest) = ap (λ b. eqb s.section n || b) (told n rest) ∙ sym (put_has n s (groups_of rest))

pub any_same : {X : Type 0} (test : X → Bool) (xs : List X) (b : Bool) → 0 < length xs → All (λ x. test x ≡ b) xs → list_any test xs ≡ b
any_same test [] b some all = absurd (omega (arith, some))
any_same test (x ∷ []) b some all = or_no (test x) ∙ All-head (λ x. test x ≡ b) x [] all
  where
    or_no : (a : Bool) → a || false ≡ a
    or_no true = refl
    or_no false = refl
any_same test (x ∷ y ∷ ys) b some all =
    ap (λ c. c || list_any test (y ∷ ys)) (All-head (λ x. test x ≡ b) x (y ∷ ys) all)
    ∙ ap (λ c. b || c) (any_same test (y ∷ ys) b (omega arith) (All-tail (λ x. test x ≡ b) x (y ∷ ys) all)) ∙ both b
  where
    both : (a : Bool) → a || a ≡ a
    both true = refl
    both false = refl

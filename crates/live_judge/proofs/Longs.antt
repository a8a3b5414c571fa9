-- Which durations are longer than a target duration.
use Rattle.std.proofs.Common.{◌≡◌, ℕ, ◌+◌, ◌*◌, ◌/◌, ◌%◌, ◌<◌, ◌≤◌, Bool, true, false, leb, nat_lt, List, [], ◌∷◌, Some, refl, sym, ◌∙◌, ap}
use Rattle.std.proofs.{Common.{inl, inr, arith}, Math.Nat.mul-le-mul_left, lemmas.Bool.cases_lt, lemmas.Bool.Decides.nat_tests}
use Rattle.std.proofs.lemmas.List.Elements.{All-head}
use Rattle.std.specs.Prelude.{filter, slice_get, None, nat_le, if◌then◌else◌}
use Rattle.exact_time.specs.Equal.{greatest}
use Rattle.live_judge.specs.{Long.is_long, declared.times.NewRun.NewRun, Times.IsRun}

abbrev if_half : (unit q r : ℕ) → ℕ
if_half unit q r = if nat_le unit (2 * r) then q + 1 else q

-- by parts of the duration
by_parts : (unit target q r : ℕ) → r < unit → 1 ≤ unit
    → leb ((2 * target + 1) * unit) (2 * (unit * q + r)) ≡ nat_lt target (if_half unit q r)
by_parts unit target q r below low = elim (cases_lt target q) [
  | inl less ↦ let more : unit * (target + 1) ≤ unit * q = mul-le-mul_left unit (omega arith) in grind (arith, nat_tests, more)
  | inr not_less ↦ elim (cases_lt q target) [
    | inl above ↦ let far : unit * (q + 1) ≤ unit * target = mul-le-mul_left unit (omega arith) in grind (arith, nat_tests, far)
    | inr same ↦ let one : q ≡ target = omega arith in rw one (grind (arith, nat_tests))
  ]
]

pub long_is : (unit target d : ℕ) → 1 ≤ unit → leb ((2 * target + 1) * unit) (2 * d) ≡ is_long unit target d
long_is unit target d low =
    let is : unit * (d / unit) + d % unit ≡ d = omega arith in
    ap (λ n. leb ((2 * target + 1) * unit) (2 * n)) (sym is) ∙ by_parts unit target (d / unit) (d % unit) (omega arith) low

module _ (unit target : ℕ) (low : 1 ≤ unit) where
  -- what isn't longer than one that isn't long isn't long
  falls : (d more : ℕ) → d ≤ more → is_long unit target more ≡ false → is_long unit target d ≡ false
  falls d more le short =
      sym (long_is unit target d low) ∙ (let over = long_is unit target more low ∙ short in grind (arith, nat_tests, over, le))

  none_long : is_long unit target 0 ≡ false
  none_long = sym (long_is unit target 0 low) ∙ (let some : 1 * unit ≤ (2 * target + 1) * unit = omega arith in
      grind (arith, nat_tests, some))

find_longest : (test : ℕ → Bool) (longest : ℕ) → test 0 ≡ false → test longest ≡ true → ((d : ℕ) → d < longest → test d ≡ false)
    → (ds : List ℕ)
    → greatest ds ≡ longest → slice_get (filter test ds) 0 ≡ Some longest
find_longest test longest none is below [] same = absurd (let never : test 0 ≡ true = ap test same ∙ is in cc)
find_longest test longest none is below (d ∷ ds) same = elim (cases_lt d longest) [
  | inl less ↦ rw (below d less) (find_longest test longest none is below ds (omega arith))
  | inr not_less ↦ let one : d ≡ longest = omega arith in rw (one, is) refl
]

find_none : (test : ℕ → Bool) (longest : ℕ) → ((d : ℕ) → d ≤ longest → test d ≡ false) → (ds : List ℕ) → greatest ds ≤ longest
    → filter test ds ≡ []
find_none test longest below [] le = refl
find_none test longest below (d ∷ ds) le = rw (below d (omega arith)) (find_none test longest below ds (omega arith))

first_is : (xs : List ℕ) (x : ℕ) → slice_get xs 0 ≡ Some x → (rest : List ℕ) × (xs ≡ x ∷ rest)
first_is [] x at = absurd (cc)
first_is (y ∷ xs) x at = (xs, cc)

module _ (unit target : ℕ) (low : 1 ≤ unit) (ds : List ℕ) (run : NewRun) (is : IsRun ds run) (first : is_long unit target run.first
    ≡ false) where
  longest_is : run.others.longest ≡ greatest is.others
  longest_is = ap (λ e. e.longest) is.summed

  behind_first : slice_get (filter (is_long unit target) ds) 0 ≡ slice_get (filter (is_long unit target) is.others) 0
  behind_first = rw (is.is, first) refl

  pub no_long : is_long unit target run.others.longest ≡ false → slice_get (filter (is_long unit target) ds) 0 ≡ None
  no_long longest =
      behind_first ∙ ap (λ (xs : List ℕ). slice_get xs 0) (find_none (is_long unit target) run.others.longest
      (λ d le. falls unit target low d run.others.longest le longest) is.others (omega (arith, longest_is)))

  -- where one is long there is a second one
  split : is_long unit target run.others.longest ≡ true → (rest : List ℕ) × (is.others ≡ run.second ∷ rest)
  split longest = elim is.second [
    | inl none ↦
        let zero_long : is_long unit target 0 ≡ true = ap (is_long unit target) (sym (longest_is ∙ ap greatest none)) ∙ longest in
        absurd (let never = none_long unit target low in cc)
    | inr at ↦ first_is is.others run.second at
  ]

  pub second_long : is_long unit target run.others.longest ≡ true → is_long unit target run.second ≡ true
      → slice_get (filter (is_long unit target) ds) 0 ≡ Some run.second
  second_long longest second = behind_first ∙ (rw ((split longest).1, second) refl)

  pub longest_long : is_long unit target run.others.longest ≡ true → is_long unit target run.second ≡ false
      → slice_get (filter (is_long unit target) ds) 0 ≡ Some run.others.longest
  longest_long longest second =
      let near : run.others.longest ≤ run.second + 1 = All-head (λ (d : ℕ). run.others.longest ≤ d + 1) run.second (split longest).0
      (rw (split longest).1 at is.even) in
      behind_first ∙ find_longest (is_long unit target) run.others.longest (none_long unit target low) longest
      (λ d less. falls unit target low d run.second (omega (arith, less, near)) second) is.others (sym longest_is)

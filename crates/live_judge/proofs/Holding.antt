-- Kept segments held against new ones from the back.
use Rattle.std.proofs.Common.{◌≡◌, ◌⊎◌, ℕ, zero, suc, ◌+◌, ◌-◌, ◌<◌, ℤ, min, Bool, true, ◌&&◌, not, List, [], ◌∷◌, ◌++◌, length, take, drop}
use Rattle.std.proofs.Common.{reverse, map, All, Option, None, Some, refl, sym, ◌∙◌, ap, inl, inr, arith, length-drop, ◌≤◌, false}
use Rattle.std.proofs.{Common.length-append, lemmas.Bool.{cases_Bool, cases_lt, not-true}, lemmas.Grind.common_steps}
use Rattle.std.proofs.{lemmas.List.{length-reverse, reverse-append, take-append-drop, append-nil, drop-drop}, lemmas.Option.same_Some}
use Rattle.std.proofs.lemmas.List.Elements.{All-cons, All-drop, All-filter, All-head, All-nil, All-tail, All-weaker, filter-append}
use Rattle.std.specs.{Prelude.{filter, if◌then◌else◌, slice_get, All}, List.last_or, Option.option_or}
use Rattle.exact_time.specs.{Time.{IsTime, Time, at_most, before, nanoseconds, seconds}, Rounding.IsRising}
use Rattle.exact_time.proofs.TimeOrder.{IsAtMost-trans, at_most-from, at_most-true, before-from, before-true, before_then_at_most}
use Rattle.exact_time.proofs.TimeOrder.{before-is}
use Rattle.timeline.specs.{declared.window.Window.Window, Expansions.Timing, Listed.{is_after, is_listed, is_until, listed, IsPlaceAfter}}
use Rattle.timeline.specs.Steady.{ArePaced}
use Rattle.followed.proofs.KeptPlaces.{all_kept}
use Rattle.live_meaning.specs.Refusals.{ends_within, first_other, rewritten_by}
use Rattle.live_judge.specs.{declared.rewritten.Ended.Ended, Rewriting.{IsLastEnded, ends_by, ends_from, held, is_same_as, or_other}}

abbrev Found : Type 0
Found = Option (Option Timing × Timing)

-- ---- the first pair that differs

abbrev told_at : List Timing → ℕ → Timing → Found
told_at olds n x = let old = slice_get olds n in if is_same_as old x then None else Some (old, x)

first_front : (olds news more : List Timing) → length olds < length news → first_other olds (news ++ more) ≡ first_other olds news
first_front olds [] more less = absurd (omega (arith, less))
first_front [] (x ∷ news) more less = refl
first_front (o ∷ olds) (x ∷ news) more less = grind (arith, first_front olds news more)

first_behind : (olds news : List Timing) (x : Timing) → first_other olds (news ++ x ∷ [])
    ≡ option_or (first_other olds news) (told_at olds (length news) x)
first_behind [] [] x = refl
first_behind (o ∷ olds) [] x = refl
first_behind [] (y ∷ news) x = refl
first_behind (o ∷ olds) (y ∷ news) x = grind (arith, first_behind olds news x)

-- ---- those that end from a time on are the last ones

module _ (f : Time) where
  abbrev Passes : Timing → Type 0
  Passes x = at_most f x.end ≡ true

  abbrev IsUp : List Timing → Type 0
  IsUp [] = Unit {0}
  IsUp (x ∷ xs) = (Passes x → All Passes xs) × IsUp xs

  up_from : (former : Time) (xs : List Timing) → IsTime former → IsRising former (map (λ x. x.end) xs)
      → IsUp xs × (at_most f former ≡ true → All Passes xs)
  up_from former [] is rising = (tt, λ _. All-nil Passes)
  up_from former (x ∷ xs) is rising =
      let rest = up_from x.end xs rising.0 rising.2 in (
        (rest.1, rest.0),
        λ passes. let here : Passes x =
            at_most-from f x.end (IsAtMost-trans f former x.end is (at_most-true f former passes) rising.1) in
            All-cons Passes x xs here (rest.1 here),
      )

  up_paced : (xs : List Timing) → ArePaced xs → IsUp xs
  up_paced [] paced = tt
  up_paced (x ∷ xs) paced = let rest = up_from x.end xs paced.0.0 paced.0.2 in (rest.1, rest.0)

  up_filter : (q : Timing → Bool) (xs : List Timing) → IsUp xs → IsUp (filter q xs)
  up_filter q [] up = tt
  up_filter q (x ∷ xs) up = elim (cases_Bool (q x)) [
    | inl is ↦ rw is ((λ here. All-filter q Passes xs (up.0 here)), up_filter q xs up.1)
    | inr other ↦ rw other (up_filter q xs up.1)
  ]

  up_drop : (k : ℕ) (xs : List Timing) → IsUp xs → IsUp (drop k xs)
  up_drop zero xs up = up
  up_drop (suc k) [] up = tt
  up_drop (suc k) (x ∷ xs) up = up_drop k xs up.1

  -- nothing before a place passes, or all from it on do
  split_up : (k : ℕ) (xs : List Timing) → IsUp xs → (ends_from f (take k xs) ≡ []) ⊎ (ends_from f (drop k xs) ≡ drop k xs)
  split_up zero xs up = inl refl
  split_up (suc k) [] up = inl refl
  split_up (suc k) (x ∷ xs) up = elim (cases_Bool (at_most f x.end)) [
    | inl is ↦ inr (all_kept (λ y. at_most f y.end) (drop k xs) (All-drop Passes k xs (up.0 is)))
    | inr other ↦ elim (split_up k xs up.1) [ inl none ↦ inl (rw other none) | inr all ↦ inr all ]
  ]

  -- as many from the back as are kept, and one, decide
  from_back : (olds xs : List Timing) (count : ℕ) → count ≡ min (length olds + 1) (length xs) → IsUp xs
      → first_other (reverse olds) (reverse (ends_from f (drop (length xs - count) xs)))
      ≡ first_other (reverse olds) (reverse (ends_from f xs))
  from_back olds xs count is up =
      let k = length xs - count in
      let news = ends_from f (drop k xs) in
      let more = ends_from f (take k xs) in
      let parts : ends_from f xs ≡ more ++ news = ap (ends_from f) (sym (take-append-drop k xs))
      ∙ filter-append (λ x. at_most f x.end) (take k xs) (drop k xs) in
      elim (cases_lt (length olds) (length (drop k xs))) [
        | inl less ↦ elim (split_up k xs up) [
          | inl none ↦ rw (parts, none) refl
          | inr all ↦
              let long : length (reverse olds) < length (reverse news) = omega (
                arith,
                less,
                length-reverse olds,
                length-reverse news,
                ap (λ (ys : List Timing). length ys) all,
              ) in
              rw (parts, reverse-append more news) (sym (first_front (reverse olds) (reverse news) (reverse more) long))
        ]
        | inr not_less ↦
            let none : k ≡ 0 = omega (arith, is, not_less, length-drop k xs) in
            ap (λ n. first_other (reverse olds) (reverse (ends_from f (drop n xs)))) none
      ]

  -- ---- what a walk finds

  or_last : (a : Found) (b : Bool) (pair : Option Timing × Timing) (found : Found)
      → option_or a (if not b then Some pair else found) ≡ option_or (option_or a (if b then None else Some pair)) found
  or_last a b pair found = grind arith

  or_none : (a : Found) → option_or a None ≡ a
  or_none a = grind arith

  held_is : (olds xs : List Timing) (found : Found) → IsUp xs
      → held olds f xs found ≡ option_or (first_other (reverse olds) (reverse (ends_from f xs))) found
  unfolding held
  held_is olds [] found up = refl
  held_is olds (x ∷ xs) found up =
      let rest = held_is olds xs (or_other olds (length xs) f x found) up.1 in
      elim (cases_Bool (at_most f x.end)) [
        | inl passes ↦
            let all = all_kept (λ y. at_most f y.end) xs (up.0 passes) in
            let behind : reverse (x ∷ xs) ≡ reverse xs ++ x ∷ [] = reverse-append (x ∷ []) xs in
            let first = first_behind (reverse olds) (reverse xs) x in
            rest ∙ (rw (passes, all, behind, first, length-reverse xs) (or_last (first_other (reverse olds) (reverse xs))
            (is_same_as (slice_get (reverse olds) (length xs)) x) (slice_get (reverse olds) (length xs), x) found))
        | inr other ↦ rest ∙ (rw other refl)
      ]

  pub held_last : (olds all : List Timing) (last : Time) (most : ℕ) (ended : Ended) → most ≡ length olds + 1
      → IsLastEnded all last most ended
      → held olds f (take ended.count ended.walk) None ≡ first_other (reverse olds) (reverse (ends_from f (ends_by last all)))
  held_last olds all last most ended few is =
      let xs = ends_by last all in
      let up : IsUp xs = up_filter (λ x. at_most x.end last) all (up_paced all is.paced) in
      rw is.are (held_is olds (drop (length xs - ended.count) xs) None (up_drop (length xs - ended.count) xs up) ∙ or_none _
      ∙ from_back olds xs ended.count (omega (arith, is.count, few)) up)

-- ---- a step of it

pub take_step : (n : ℕ) (x : Timing) (xs : List Timing) → 0 < n → take n (x ∷ xs) ≡ x ∷ take (n - 1) xs
take_step zero x xs some = absurd (omega arith)
take_step (suc n) x xs some = let same : suc n - 1 ≡ n = omega arith in rw same refl

pub ruleset held_steps = (common_steps, take_step)

-- ---- the rule

module _ {X : Type 0} (p q : X → Bool) where
  pub filter_filter : (xs : List X) → filter p (filter q xs) ≡ filter (λ x. q x && p x) xs
  filter_filter [] = refl
  filter_filter (x ∷ xs) = grind (arith, filter_filter xs)

  filter_same : (xs : List X) → All (λ x. p x ≡ q x) xs → filter p xs ≡ filter q xs
  filter_same [] same = refl
  filter_same (x ∷ xs) same =
      rw (All-head (λ x. p x ≡ q x) x xs same, filter_same xs (All-tail (λ x. p x ≡ q x) x xs same)) refl

three : (a b d : Bool) → (a ≡ true → b ≡ true → d ≡ true) → (a && b) ≡ ((d && b) && a)
three a b d is = grind arith

until_before : (until : Option ℤ) (x last : Time) → IsTime last → at_most x last ≡ true → is_until until last ≡ true
    → is_until until x ≡ true
until_before None x last is le within = refl
until_before (Some z) x last is le within = at_most-from x (nanoseconds z)
    (IsAtMost-trans x last (nanoseconds z) is (at_most-true x last le) (at_most-true last (nanoseconds z) within))

module _ (window : Window) (first last : Time) (whole : window.after ≡ None) (begins : before (seconds 0) first ≡ true)
    (is_last : IsTime last) (within : is_until window.until last ≡ true) where
  is_within : (x : Timing) → IsTime x.end → at_most first x.end ≡ true → at_most x.end last ≡ true → is_listed window x ≡ true
  is_within x is from by =
      let late : before (seconds 0) x.end ≡ true = before-from (seconds 0) x.end
      (before_then_at_most (seconds 0) first x.end is (before-true (seconds 0) first begins) (at_most-true first x.end from)) in
      let all : is_after window.after x.end ≡ true = rw whole refl in
      rw (late, all, until_before window.until x.end last is_last by within) refl

  pub within_are : (xs : List Timing) → All (λ x. IsTime x.end) xs → filter (ends_within first last) xs
      ≡ ends_from first (ends_by last (listed window xs))
  within_are xs timed =
      filter_same (ends_within first last) (λ x. (is_listed window x && at_most x.end last) && at_most first x.end) xs
      (All-weaker (λ (x : Timing). IsTime x.end) (λ x. ends_within first last x
      ≡ ((is_listed window x && at_most x.end last) && at_most first x.end))
      (λ x is. three (at_most first x.end) (at_most x.end last) (is_listed window x) (is_within x is)) xs timed)
      ∙ sym (ap (ends_from first) (filter_filter (λ x. at_most x.end last) (is_listed window) xs)
      ∙ filter_filter (λ x. at_most first x.end) (λ x. is_listed window x && at_most x.end last) xs)

last_at : (x : Timing) (xs : List Timing) → last_or (Some x) xs ≡ slice_get (x ∷ xs) (length xs)
last_at x [] = refl
last_at x (y ∷ xs) = last_at y xs

pub rewritten_is : (olds xs : List Timing) (first last : Timing) → slice_get olds 0 ≡ Some first
    → slice_get olds (length olds - 1) ≡ Some last
    → rewritten_by olds xs ≡ first_other (reverse olds) (reverse (filter (ends_within first.end last.end) xs))
rewritten_is [] xs first last at end = absurd (cc)
rewritten_is (o ∷ olds) xs first last at end =
    let one : o ≡ first = same_Some o first at in
    let place : length olds ≡ length (o ∷ olds) - 1 = omega arith in
    let there : last_or (Some o) olds ≡ Some last = last_at o olds ∙ ap (slice_get (o ∷ olds)) place ∙ end in
    rw (there, ← one) refl

-- ---- segments that end by a time are the first ones of those that are listed

filter_drop : (p : Timing → Bool) (k : ℕ) (xs : List Timing) → length (filter p xs) ≤ k + length (filter p (drop k xs))
filter_drop p zero xs = omega arith
filter_drop p (suc k) [] = omega arith
filter_drop p (suc k) (x ∷ xs) = grind (arith, filter_drop p k xs)

-- going back adds at most as many
pub back_adds : (window : Window) (xs : List Timing) (place count : ℕ)
    → length (listed window (drop (place - count) xs)) ≤ count + length (listed window (drop place xs))
back_adds window xs place count = elim (cases_lt place count) [
  | inl less ↦
      let first : place - count ≡ 0 = omega arith in
      rw first (omega (arith, less, filter_drop (is_listed window) place xs))
  | inr not_less ↦
      let gone : (place - count) + count ≡ place = omega arith in
      rw (drop-drop count (place - count) xs, gone) at (filter_drop (is_listed window) count (drop (place - count) xs))
]

-- ---- before and behind a time

none_kept : (test : Timing → Bool) (xs : List Timing) → All (λ x. test x ≡ false) xs → filter test xs ≡ []
none_kept test [] none = refl
none_kept test (x ∷ xs) none =
    rw (All-head (λ x. test x ≡ false) x xs none) (none_kept test xs (All-tail (λ x. test x ≡ false) x xs none))

end_of : (front walk all : List Timing) → all ≡ front ++ walk → walk ≡ drop (length all - length walk) all
end_of front walk all same = grind (arith, common_steps)

ending : (front behind : List Timing) (count gone : ℕ) → count + gone ≡ length front
    → take count (drop gone (front ++ behind)) ≡ drop gone front
ending front behind count gone all = grind (arith, common_steps)

module _ (window : Window) (xs : List Timing) where
  split_at : (place : ℕ) → listed window xs ≡ listed window (take place xs) ++ listed window (drop place xs)
  split_at place = ap (listed window) (sym (take-append-drop place xs)) ∙ filter-append (is_listed window) (take place xs) (drop place xs)

  -- where none is listed before a place, all are from there on
  pub all_from : (place : ℕ) → listed window (take place xs) ≡ [] → listed window xs ≡ listed window (drop place xs)
  all_from place none = split_at place ∙ ap (λ (ys : List Timing). ys ++ listed window (drop place xs)) none

  pub lengths : (place : ℕ) → length (listed window xs) ≡ length (listed window (take place xs)) + length (listed window (drop place xs))
  lengths place = ap (λ (ys : List Timing). length ys) (split_at place)
      ∙ length-append (listed window (take place xs)) (listed window (drop place xs))

  module _ (last : Time) (behind : ℕ) (is : IsPlaceAfter last xs behind) where
    abbrev later : List Timing
    later = listed window (drop behind xs)

    abbrev ended : List Timing
    ended = listed window (take behind xs)

    pub ended_are : ends_by last (listed window xs) ≡ ended
    ended_are =
        let own = all_kept (λ x. at_most x.end last) ended (All-filter (is_listed window) (λ x. at_most x.end last ≡ true)
        (take behind xs) is.none_before) in
        let none = none_kept (λ x. at_most x.end last) later (All-filter (is_listed window) (λ x. at_most x.end last ≡ false)
        (drop behind xs) (All-weaker (λ (x : Timing). before last x.end ≡ true) (λ x. at_most x.end last ≡ false)
        (λ x after. not-true _ (sym (before-is last x.end) ∙ after)) (drop behind xs) is.all_behind)) in
        ap (ends_by last) (split_at behind) ∙ filter-append (λ x. at_most x.end last) ended later
        ∙ (rw (own, none) (append-nil ended))

    -- the last `count` of those that end by a time
    pub taken : (cursor count : ℕ) → length (listed window (drop cursor xs)) ≡ count + length later → count ≤ length ended
        → take count (listed window (drop cursor xs)) ≡ drop (length (ends_by last (listed window xs)) - count)
        (ends_by last (listed window xs))
    taken cursor count counted few =
        let walk = listed window (drop cursor xs) in
        let gone : length (listed window xs) - length walk ≡ length ended - count = omega (arith, lengths behind, counted) in
        let walk_is : walk ≡ drop (length ended - count) (listed window xs) =
        end_of (listed window (take cursor xs)) walk (listed window xs) (split_at cursor) ∙ ap (λ n. drop n (listed window xs)) gone in
        rw ended_are (ap (take count) (walk_is ∙ ap (drop (length ended - count)) (split_at behind))
        ∙ ending ended later count (length ended - count) (omega (arith, few)))

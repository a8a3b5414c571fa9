-- The laws of origins.
use Rattle.std.proofs.Common.{◌≡◌, ℕ, suc, inl, inr, ◌+◌, ◌*◌, ◌/◌, ◌<◌, ◌≤◌, List, [], ◌∷◌, length, get_or, refl, sym, ap, subst}
use Rattle.std.proofs.{Common.arith, lemmas.Bool.cases_lt, lemmas.List.Elements.{All-cons, All-head, All-nil}, lemmas.Nat.Gcd.dvd-zero}
use Rattle.std.proofs.Math.Nat.{div-mul_cancel, dvd-mul_left, dvd_of_mul-dvd-mul_right, le-div_iff_mul-le, le_antisymm, lt-div-mul-add}
use Rattle.std.proofs.Math.Nat.{le_of_mul-le-mul_left, min-le_left, min-le_right, mul-le-mul_left, mul-lt-mul_of_pos_right}
use Rattle.std.proofs.Math.Nat.{pos_of_dvd_of_pos}
use Rattle.std.specs.{Prelude.{All, Any, min, ◌⊎◌}, Int.◌∣◌}
use Rattle.fragment_times.specs.declared.times.SegmentTimes.{SegmentTimes}
use Rattle.fragment_times.specs.Origins.{AloneIsFirst, BeginTogether, IsAtMost, IsBeginning, IsFirst, IsUnit, OffsetsAreBefore}
use Rattle.fragment_times.specs.Origins.{OffsetsAreOneTime, OriginsAreLatest, OriginsAreNear, TogetherAreFirst, UnitsAreCommon}
use Rattle.fragment_times.specs.{Origins.{count_of, first_of, least_behind, origin_of, unit_of, units_in}, Times.IsScaled}
use Rattle.fragment_times.proofs.Divisors.{divisor, unit_common}

-- ---- a track's timescale in units

pub record IsPart (unit : ℕ) (track : SegmentTimes) : Type 0 where
  pub is : IsUnit unit track
  pub all : track.scale / unit * unit ≡ track.scale

part_of : (unit : ℕ) (track : SegmentTimes) → IsScaled track → unit ∣ track.scale → IsPart unit track
part_of unit track scaled part =
    let all : track.scale / unit * unit ≡ track.scale = div-mul_cancel unit part in
    record {
      is = record { some = pos_of_dvd_of_pos part scaled; whole = positive (track.scale / unit) unit track.scale all scaled };
      all = all;
    }
  where
    positive : (n unit scale : ℕ) → n * unit ≡ scale → 0 < scale → 0 < n
    positive n unit scale all scaled = grind arith

parts : (tracks : List SegmentTimes) → All IsScaled tracks → All (IsPart (unit_of tracks)) tracks
parts tracks scaled k d within =
    part_of (unit_of tracks) (get_or tracks k d) (scaled k d within) ((unit_common tracks scaled).each k d within)

pub units : (tracks : List SegmentTimes) → All IsScaled tracks → All (IsUnit (unit_of tracks)) tracks
units tracks scaled k d within = (parts tracks scaled k d within).is

-- ---- the count is the least number of units

least-le : (former unit : ℕ) (xs : List SegmentTimes) → least_behind former unit xs ≤ former
least-le former unit [] = omega arith
least-le former unit (x ∷ xs) = omega (arith, least-le (min former (units_in unit x)) unit xs, min-le_left former (units_in unit x))

least-le_each : (former unit : ℕ) (xs : List SegmentTimes) → All (λ (x : SegmentTimes). least_behind former unit xs ≤ units_in unit x) xs
least-le_each former unit [] = All-nil (λ (x : SegmentTimes). former ≤ units_in unit x)
least-le_each former unit (x ∷ xs) =
    let own : ℕ = min former (units_in unit x) in
    All-cons (λ (y : SegmentTimes). least_behind own unit xs ≤ units_in unit y) x xs
    (omega (arith, least-le own unit xs, min-le_right former (units_in unit x))) (least-le_each own unit xs)

count-le : (unit : ℕ) (tracks : List SegmentTimes) → All (λ (x : SegmentTimes). count_of unit tracks ≤ units_in unit x) tracks
count-le unit [] = All-nil (λ (x : SegmentTimes). 0 ≤ units_in unit x)
count-le unit (x ∷ xs) =
    All-cons (λ (y : SegmentTimes). least_behind (units_in unit x) unit xs ≤ units_in unit y) x xs
    (least-le (units_in unit x) unit xs) (least-le_each (units_in unit x) unit xs)

any_here : {X : Type 0} (P : X → Type 0) (x : X) (xs : List X) → P x → Any P (x ∷ xs)
any_here P x xs is = (0, x, omega arith, refl, is)

any_later : {X : Type 0} (P : X → Type 0) (x : X) (xs : List X) → Any P xs → Any P (x ∷ xs)
any_later P x xs any = (suc any.0, any.1, omega (arith, any.2), any.3, any.4)

least_any : (former unit : ℕ) (xs : List SegmentTimes)
    → (least_behind former unit xs ≡ former) ⊎ Any (λ (x : SegmentTimes). least_behind former unit xs ≡ units_in unit x) xs
least_any former unit [] = inl refl
least_any former unit (x ∷ xs) =
    let own : ℕ = min former (units_in unit x) in
    let P : SegmentTimes → Type 0 = λ y. least_behind own unit xs ≡ units_in unit y in
    elim (least_any own unit xs) as (λ _. (least_behind own unit xs ≡ former) ⊎ Any P (x ∷ xs)) [
      | inl e ↦ elim (cases_lt former (units_in unit x)) as (λ _. (least_behind own unit xs ≡ former) ⊎ Any P (x ∷ xs))
          [ inl less ↦ inl (omega arith) | inr most ↦ inr (any_here P x xs (omega arith)) ]
      | inr any ↦ inr (any_later P x xs any)
    ]

count_any : (unit : ℕ) (tracks : List SegmentTimes) → 0 < length tracks
    → Any (λ (x : SegmentTimes). count_of unit tracks ≡ units_in unit x) tracks
count_any unit [] some = absurd (omega arith)
count_any unit (x ∷ xs) some =
    let P : SegmentTimes → Type 0 = λ y. least_behind (units_in unit x) unit xs ≡ units_in unit y in
    elim (least_any (units_in unit x) unit xs) as (λ _. Any P (x ∷ xs))
    [ inl e ↦ any_here P x xs e | inr any ↦ any_later P x xs any ]

-- ---- numbers

one_time : (count unit a b s t : ℕ) → a * unit ≡ s → b * unit ≡ t → count * a * t ≡ count * b * s
one_time count unit a b s t p q = rw (← p, ← q) (omega arith)

below_next : (f unit a s count : ℕ) → a * unit ≡ s → 0 < a → 0 < unit → count ≡ f / a → f * unit < (count + 1) * s
below_next f unit a s count p positive some e =
    let below : f * unit < (f / a * a + a) * unit = mul-lt-mul_of_pos_right (lt-div-mul-add positive) some in
    rw (← p, e) (omega (arith, below))

at_most : (n f unit a s : ℕ) → a * unit ≡ s → 0 < a → 0 < unit → n * s ≤ f * unit → n ≤ f / a
at_most n f unit a s p positive some below =
    let shared : unit * (n * a) ≤ unit * f = omega (arith, ap (λ k. n * k) p) in
    (le-div_iff_mul-le positive).1 (le_of_mul-le-mul_left shared some)

no_later : (q f g unit s t : ℕ) → q * s ≡ f * unit → f * t ≡ g * s → 0 < s → q * t ≤ g * unit
no_later q f g unit s t own same some =
    let shared : s * (q * t) ≤ s * (g * unit) = omega (arith, ap (λ k. k * t) own, ap (λ k. k * unit) same) in
    le_of_mul-le-mul_left shared some

-- ---- the laws

pub units_are_common : UnitsAreCommon
units_are_common tracks scaled =
    let common = unit_common tracks scaled in record { divides = common.each; greatest = divisor tracks (unit_of tracks) common }

pub offsets_are_one_time : OffsetsAreOneTime
offsets_are_one_time tracks scaled k d within j e also =
    one_time (count_of (unit_of tracks) tracks) (unit_of tracks) _ _ _ _
    (parts tracks scaled k d within).all (parts tracks scaled j e also).all

pub offsets_are_before : OffsetsAreBefore
offsets_are_before tracks scaled k d within =
    (le-div_iff_mul-le (units tracks scaled k d within).whole).0 (count-le (unit_of tracks) tracks k d within)

pub origins_are_near : OriginsAreNear
origins_are_near tracks scaled some =
    let any = count_any (unit_of tracks) tracks some in
    let part = subst (λ x. IsPart (unit_of tracks) x) any.3 (parts tracks scaled any.0 any.1 any.2) in
    (any.0, any.1, any.2, any.3, below_next (first_of any.1) (unit_of tracks) _ _ _ part.all part.is.whole part.is.some any.4)

pub origins_are_latest : OriginsAreLatest
origins_are_latest tracks scaled some count all =
    let any = count_any (unit_of tracks) tracks some in
    let part = subst (λ x. IsPart (unit_of tracks) x) any.3 (parts tracks scaled any.0 any.1 any.2) in
    let below = subst (λ x. IsAtMost (unit_of tracks) count x) any.3 (all any.0 any.1 any.2) in
    omega (arith, any.4, at_most count (first_of any.1) (unit_of tracks) _ _ part.all part.is.whole part.is.some below)

pub together_are_first : TogetherAreFirst
together_are_first tracks scaled together k d within =
    let x : SegmentTimes = get_or tracks k d in let unit : ℕ = unit_of tracks in let a : ℕ = x.scale / unit in let f : ℕ = first_of x in
    let part = parts tracks scaled k d within in
    let shared : x.scale ∣ f * unit =
    (unit_common tracks scaled).greatest f x.scale (subst (λ n. x.scale ∣ n) (omega arith) (dvd-zero x.scale))
    (λ j e also. subst (λ n. x.scale ∣ n) (sym (together k d within j e also)) (dvd-mul_left x.scale (first_of (get_or tracks j e)))) in
    let whole : f / a * a ≡ f =
    div-mul_cancel a (dvd_of_mul-dvd-mul_right a part.is.some (subst (λ n. n ∣ f * unit) (sym part.all) shared)) in
    let own : f / a * x.scale ≡ f * unit = omega (arith, ap (λ n. n * unit) whole, ap (λ n. f / a * n) part.all) in
    let most : f / a ≤ count_of unit tracks = origins_are_latest tracks scaled (omega arith) (f / a)
    (λ j e also. no_later (f / a) f (first_of (get_or tracks j e)) unit x.scale (get_or tracks j e).scale own
    (together k d within j e also) (scaled k d within)) in
    le_antisymm (offsets_are_before tracks scaled k d within) (omega (arith, whole, mul-le-mul_left a most))

pub alone_is_first : AloneIsFirst
alone_is_first track scaled =
    let P : SegmentTimes → Type 0 = λ other. BeginTogether track other in
    let Q : SegmentTimes → Type 0 = λ one. All (BeginTogether one) (track ∷ []) in
    All-head (IsFirst (origin_of (track ∷ []))) track [] (together_are_first (track ∷ [])
    (All-cons IsScaled track [] scaled (All-nil IsScaled))
    (All-cons Q track [] (All-cons P track [] refl (All-nil P)) (All-nil Q)))

-- the offsets are at or before the first segments
pub beginnings : (tracks : List SegmentTimes) → All IsScaled tracks → All (IsBeginning (origin_of tracks)) tracks
beginnings tracks scaled k d within =
    record { some = (units tracks scaled k d within).some; before = offsets_are_before tracks scaled k d within }

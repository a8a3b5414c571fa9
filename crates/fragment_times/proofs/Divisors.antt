-- The greatest common divisor of timescales.
use Rattle.std.proofs.Common.{◌≡◌, ℕ, zero, suc, ◌+◌, ◌*◌, ◌/◌, ◌%◌, ◌<◌, ◌≤◌, Bool, true, false, cond, List, [], ◌∷◌, length, get_or, drop}
use Rattle.std.proofs.Common.{drop-cons, refl, sym, add-one, ap, subst, ◌∙◌, arith}
use Rattle.std.proofs.lemmas.Nat.Gcd.{dvd_refl, dvd-zero, dvd_trans, le_of_dvd, dvd_of_mod-eq-zero, mod-eq-zero_of_dvd, same_from_IsGcd}
use Rattle.std.proofs.Math.Nat.{div-mul-le_self, dvd-mod_iff, dvd-mul_left_of_dvd, dvd-sub_iff_left, eq-zero_of_zero-dvd, le_antisymm}
use Rattle.std.proofs.Math.Nat.{mod-eq-sub-div-mul, mul-le-mul_left, mul-sub, one-mul, pos_of_dvd_of_pos}
use Rattle.std.proofs.lemmas.{Bool.{eqb-true, eq-eqb}, List.Elements.{All-cons, All-head, All-nil, All-tail, All-weaker}}
use Rattle.std.proofs.lemmas.List.Sums.{AllPass-from_list_all, list_all-from_AllPass}
use Rattle.std.specs.{Prelude.{All, ◌==◌}, Int.{IsGcd, ◌∣◌}}
use Rattle.exact_time.specs.Floor.{greatest_of}
use Rattle.fragment_times.specs.{declared.times.SegmentTimes.SegmentTimes, Origins.{IsMultipleOf, divides_all, unit_of}, Times.IsScaled}

-- ---- of two numbers: each number that divides the same multiples of both divides that of theirs

pub record IsShared (a b g : ℕ) : Type 0 where
  pub left : g ∣ a
  pub right : g ∣ b
  pub greatest : (n d : ℕ) → d ∣ n * a → d ∣ n * b → d ∣ n * g

-- the same multiple of the remainder
dvd-mul-mod : (n d a b : ℕ) → d ∣ n * a → d ∣ n * b → d ∣ n * (a % b)
dvd-mul-mod n d a b p q =
    let part : d ∣ n * (a / b * b) = subst (λ k. d ∣ k) (omega arith) (dvd-mul_left_of_dvd d q (a / b)) in
    let less : n * (a / b * b) ≤ n * a = mul-le-mul_left n (div-mul-le_self a b) in
    subst (λ k. d ∣ k) (sym (ap (λ k. n * k) (mod-eq-sub-div-mul a b) ∙ mul-sub n a (a / b * b))) ((dvd-sub_iff_left d less part).1 p)

shared_of : (limit a b : ℕ) → b ≤ limit → (g : ℕ) × IsShared a b g
shared_of limit a zero within = (a, record { left = dvd_refl a; right = dvd-zero a; greatest = λ n d p q. p })
shared_of zero a (suc b) within = absurd (omega arith)
shared_of (suc k) a (suc b) within =
    let rest = shared_of k (suc b) (a % suc b) (omega arith) in (
      rest.0,
      record {
        left = (dvd-mod_iff rest.0 rest.1.left).0 rest.1.right;
        right = rest.1.left;
        greatest = λ n d p q. rest.1.greatest n d q (dvd-mul-mod n d a (suc b) p q);
      },
    )

-- a greatest common divisor is one
pub shared : (a b g : ℕ) → IsGcd a b g → IsShared a b g
shared a b g is =
    let own = shared_of b a b (omega arith) in
    let other : IsGcd a b own.0 = (
      own.1.left,
      own.1.right,
      λ d p q.
          subst (λ k. d ∣ k) (one-mul own.0) (own.1.greatest 1 d (dvd-mul_left_of_dvd d p 1) (dvd-mul_left_of_dvd d q 1)),
    ) in
    subst (λ k. IsShared a b k) (same_from_IsGcd a b own.0 g other is) own.1

-- ---- of a number and timescales

pub record IsCommon (former : ℕ) (tracks : List SegmentTimes) (g : ℕ) : Type 0 where
  pub own : g ∣ former
  pub each : All (IsMultipleOf g) tracks
  pub greatest : (n d : ℕ) → d ∣ n * former → All (λ (track : SegmentTimes). d ∣ n * track.scale) tracks → d ∣ n * g

pub common_alone : (g : ℕ) → IsCommon g [] g
common_alone g = record { own = dvd_refl g; each = All-nil (IsMultipleOf g); greatest = λ n d p all. p }

-- of a number and a timescale, and then of that and the others
common_more : (former g h : ℕ) (x : SegmentTimes) (xs : List SegmentTimes) → IsShared former x.scale g → IsCommon g xs h
    → IsCommon former (x ∷ xs) h
common_more former g h x xs both more = record {
  own = dvd_trans h more.own both.left;
  each = All-cons (IsMultipleOf h) x xs (dvd_trans h more.own both.right) more.each;
  greatest = λ n d p all.
      let P : SegmentTimes → Type 0 = λ track. d ∣ n * track.scale in
      more.greatest n d (both.greatest n d p (All-head P x xs all)) (All-tail P x xs all);
}

common_of : (former : ℕ) (tracks : List SegmentTimes) → (g : ℕ) × IsCommon former tracks g
common_of former [] = (former, common_alone former)
common_of former (x ∷ xs) =
    let both = shared_of x.scale former x.scale (omega arith) in
    let more = common_of both.0 xs in
    (more.0, common_more former both.0 more.0 x xs both.1 more.1)

-- the number and the first of the tracks that are left
pub common_next : (tracks : List SegmentTimes) (i former g h : ℕ) (d : SegmentTimes) → i < length tracks
    → IsGcd former (get_or tracks i d).scale g → IsCommon g (drop (i + 1) tracks) h → IsCommon former (drop i tracks) h
common_next tracks i former g h d within both more =
    let next : drop i tracks ≡ get_or tracks i d ∷ drop (i + 1) tracks =
    drop-cons tracks i d within ∙ ap (λ n. get_or tracks i d ∷ drop n tracks) (sym (add-one i)) in
    rw next (common_more former g h (get_or tracks i d) (drop (i + 1) tracks) (shared former (get_or tracks i d).scale g both) more)

-- ---- it is the unit

-- the greatest number that passes, where none does above it
greatest_is : (test : ℕ → Bool) (limit g : ℕ) → g ≤ limit → test g ≡ true → ((k : ℕ) → test k ≡ true → k ≤ g)
    → greatest_of test limit ≡ g
unfolding greatest_of
greatest_is test zero g within passes most = omega arith
greatest_is test (suc n) g within passes most =
    elim (test (suc n)) as (λ b. test (suc n) ≡ b → cond b (suc n) (greatest_of test n) ≡ g) [
      | true ↦ λ e. le_antisymm (most (suc n) e) within
      | false ↦ λ e. greatest_is test n g (below n g within passes e) passes most
    ] refl
  where
    below : (n g : ℕ) → g ≤ suc n → test g ≡ true → test (suc n) ≡ false → g ≤ n
    below n g within passes fails = grind arith

divides : (tracks : List SegmentTimes) (n : ℕ) → divides_all tracks n ≡ true → All (IsMultipleOf n) tracks
divides tracks n passes =
    All-weaker (λ (track : SegmentTimes). (track.scale % n == 0) ≡ true) (IsMultipleOf n)
    (λ track e. dvd_of_mod-eq-zero n (eqb-true (track.scale % n) 0 e)) tracks
    (AllPass-from_list_all (λ (track : SegmentTimes). track.scale % n == 0) tracks passes)

passes : (tracks : List SegmentTimes) (n : ℕ) → All (IsMultipleOf n) tracks → divides_all tracks n ≡ true
passes tracks n all =
    list_all-from_AllPass (λ (track : SegmentTimes). track.scale % n == 0) tracks
    (All-weaker (IsMultipleOf n) (λ (track : SegmentTimes). (track.scale % n == 0) ≡ true)
    (λ track e. eq-eqb (track.scale % n) 0 (mod-eq-zero_of_dvd n e)) tracks all)

-- each number that divides all of them divides it
pub divisor : (tracks : List SegmentTimes) (g : ℕ) → IsCommon 0 tracks g → (n : ℕ) → All (IsMultipleOf n) tracks
    → n ∣ g
divisor tracks g is n all =
    subst (λ k. n ∣ k) (one-mul g) (is.greatest 1 n (dvd-zero n)
    (All-weaker (IsMultipleOf n) (λ (track : SegmentTimes). n ∣ 1 * track.scale)
    (λ track e. dvd-mul_left_of_dvd n e 1) tracks all))

-- no other number is it
pub unit_is : (tracks : List SegmentTimes) (g : ℕ) → All IsScaled tracks → IsCommon 0 tracks g → unit_of tracks ≡ g
unit_is [] g scaled is =
    sym (eq-zero_of_zero-dvd (divisor [] g is 0 (All-nil (IsMultipleOf 0))))
unit_is (x ∷ xs) g scaled is =
    let some : 0 < x.scale = All-head IsScaled x xs scaled in
    let own : g ∣ x.scale = All-head (IsMultipleOf g) x xs is.each in
    greatest_is (divides_all (x ∷ xs)) x.scale g (le_of_dvd some own) (passes (x ∷ xs) g is.each)
    (λ k e. le_of_dvd (pos_of_dvd_of_pos own some) (divisor (x ∷ xs) g is k (divides (x ∷ xs) k e)))

pub unit_common : (tracks : List SegmentTimes) → All IsScaled tracks → IsCommon 0 tracks (unit_of tracks)
unit_common tracks scaled =
    let own = common_of 0 tracks in
    subst (λ g. IsCommon 0 tracks g) (sym (unit_is tracks own.0 scaled own.1)) own.1

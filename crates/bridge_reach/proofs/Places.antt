-- What stands at a place of what some things give one after another.
use Rattle.std.proofs.Common.{◌≡◌, ◌<◌, ◌+◌, ◌*◌, ℕ, zero, suc, List, [], ◌∷◌, ◌++◌, length, Option, Some, Result, Ok, get_or, refl, sym}
use Rattle.std.proofs.{Common.{ap, ◌∙◌, arith, length-append}, lemmas.List.FromFn.{get_or-range_with_len, length-range_with_len}}
use Rattle.std.proofs.lemmas.Option.{slice_get-get_or}
use Rattle.std.specs.{List.range_with_len, Prelude.slice_get}
use Rattle.bridge_io.proofs.AndThen.{steps_of}
use Rattle.bridge_io.specs.Answer.{gathered}
use Rattle.fragment_times.specs.{declared.fault.TimesFault.TimesFault, Times.{alone, each}}

pub in_range : (n t : ℕ) → t < n → slice_get (range_with_len 0 n) t ≡ Some t
in_range n t within =
    let same : get_or (range_with_len 0 n) t 0 ≡ t = get_or-range_with_len 0 n t 0 within ∙ omega arith in
    slice_get-get_or (range_with_len 0 n) t 0 (rw length-range_with_len within) ∙ ap Some same

front : {X : Type 0} (xs ys : List X) (i : ℕ) → i < length xs → slice_get (xs ++ ys) i ≡ slice_get xs i
front [] ys i within = absurd (omega (arith, within))
front (x ∷ xs) ys zero within = refl
front (x ∷ xs) ys (suc i) within = front xs ys i (omega (arith, within))

behind : {X : Type 0} (xs ys : List X) (i : ℕ) → slice_get (xs ++ ys) (length xs + i) ≡ slice_get ys i
behind [] ys i = (let same : 0 + i ≡ i = omega arith in ap (slice_get ys) same)
behind (x ∷ xs) ys i =
    let next : length (x ∷ xs) + i ≡ suc (length xs + i) = omega arith in
    ap (slice_get (x ∷ (xs ++ ys))) next ∙ behind xs ys i

-- ---- one thing of each

pub record IsGiven {Y : Type 0} (told : Result Y TimesFault) (there : Option Y) : Type 0 where
  pub value : Y
  pub given : told ≡ Ok value
  pub is : there ≡ Some value

record IsFirst {X Y : Type 0} (give : X → Result Y TimesFault) (x : X) (xs : List X) (ys : List Y) : Type 0 where
  value : Y
  later : List Y
  given : give x ≡ Ok value
  rest : each give xs ≡ Ok later
  whole : ys ≡ value ∷ later

module _ {X Y : Type 0} (give : X → Result Y TimesFault) where
  is_first : (x : X) (xs : List X) (ys : List Y) → each give (x ∷ xs) ≡ Ok ys → IsFirst give x xs ys
  is_first x xs ys is =
      let first = steps_of (alone (give x)) _ ys is in
      let later = steps_of (each give xs) _ ys first.then in
      let one = steps_of (give x) (λ y. Ok (y ∷ [])) first.value first.first in
      let head : one.value ∷ [] ≡ first.value = (let e = one.then in cc) in
      let whole : first.value ++ later.value ≡ ys = (let e = later.then in cc) in
      record {
        value = one.value;
        later = later.value;
        given = one.first;
        rest = later.first;
        whole = sym whole
            ∙ ap (λ some. some ++ later.value) (sym head);
      }

  pub length_each : (xs : List X) (ys : List Y) → each give xs ≡ Ok ys → length ys ≡ length xs
  length_each [] ys is = (let none : [] ≡ ys = cc in ap length (sym none))
  length_each (x ∷ xs) ys is = (let f = is_first x xs ys is in ap length f.whole ∙ ap suc (length_each xs f.later f.rest))

  pub each_at : (xs : List X) (ys : List Y) → each give xs ≡ Ok ys → (k : ℕ) (x : X) → slice_get xs k ≡ Some x
      → IsGiven (give x) (slice_get ys k)
  each_at [] ys is k x there = absurd (cc)
  each_at (first ∷ xs) ys is zero x there =
      let f = is_first first xs ys is in let same : first ≡ x = cc in
      record { value = f.value; given = ap give (sym same) ∙ f.given; is = ap (λ ys. slice_get ys 0) f.whole }
  each_at (first ∷ xs) ys is (suc k) x there =
      let f = is_first first xs ys is in let later = each_at xs f.later f.rest k x there in
      record { value = later.value; given = later.given; is = ap (λ ys. slice_get ys (suc k)) f.whole ∙ later.is }

-- ---- so many things of each

pub record IsChunk {Y : Type 0} (told : Result (List Y) TimesFault) (there : Option Y) (t : ℕ) : Type 0 where
  pub chunk : List Y
  pub given : told ≡ Ok chunk
  pub is : there ≡ slice_get chunk t

module _ {X Y : Type 0} (give : X → Result (List Y) TimesFault) (n : ℕ) (has : (x : X) (ys : List Y) → give x ≡ Ok ys → length ys ≡ n) where
  pub length_chunks : (xs : List X) (ys : List Y) → gathered give xs ≡ Ok ys → length ys ≡ length xs * n
  length_chunks [] ys is =
      let none : [] ≡ ys = cc in let nothing : length ys ≡ 0 = ap length (sym none) in omega (arith, nothing)
  length_chunks (x ∷ xs) ys is =
      let own = steps_of (give x) _ ys is in let later = steps_of (gathered give xs) _ ys own.then in
      let whole : own.value ++ later.value ≡ ys = (let e = later.then in cc) in
      ap length (sym whole) ∙ length-append own.value later.value
      ∙ omega (arith, has x own.value own.first, length_chunks xs later.value later.first)

  pub chunk_at : (xs : List X) (ys : List Y) → gathered give xs ≡ Ok ys → (s : ℕ) (x : X) → slice_get xs s ≡ Some x → (t : ℕ) → t < n
      → IsChunk (give x) (slice_get ys (s * n + t)) t
  chunk_at [] ys is s x there t within = absurd (cc)
  chunk_at (first ∷ xs) ys is zero x there t within =
      let own = steps_of (give first) _ ys is in let later = steps_of (gathered give xs) _ ys own.then in
      let whole : own.value ++ later.value ≡ ys = (let e = later.then in cc) in let same : first ≡ x = cc in
      let place : 0 * n + t ≡ t = omega arith in
      record {
        chunk = own.value;
        given = ap give (sym same) ∙ own.first;
        is = ap (slice_get ys) place ∙ ap (λ ys. slice_get ys t) (sym whole)
            ∙ front own.value later.value t (omega (arith, within, has first own.value own.first));
      }
  chunk_at (first ∷ xs) ys is (suc s) x there t within =
      let own = steps_of (give first) _ ys is in let later = steps_of (gathered give xs) _ ys own.then in
      let whole : own.value ++ later.value ≡ ys = (let e = later.then in cc) in
      let found = chunk_at xs later.value later.first s x there t within in
      let place : suc s * n + t ≡ length own.value + (s * n + t) = omega (arith, has first own.value own.first) in
      record {
        chunk = found.chunk;
        given = found.given;
        is = ap (λ ys. slice_get ys (suc s * n + t)) (sym whole) ∙ ap (slice_get (own.value ++ later.value)) place
            ∙ behind own.value later.value (s * n + t) ∙ found.is;
      }

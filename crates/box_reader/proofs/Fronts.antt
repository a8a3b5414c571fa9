-- What is found in a front of some bytes is found in the whole.
use Rattle.std.proofs.Common.{◌≡◌, ◌≤◌, ◌<◌, ◌+◌, ◌-◌, ◌==◌, ℕ, zero, suc, Bool, true, false, List, [], ◌∷◌, length, take, drop, Option}
use Rattle.std.proofs.Common.{Some, None, Result, Ok, Err, nat_lt, if◌then◌else◌, refl, sym, ap, ◌∙◌, arith, subst}
use Rattle.std.proofs.{lemmas.Bool.Decides.nat_tests, lemmas.List.{drop-take, length-drop, length-take}}
use Rattle.std.specs.Int.{from_be_bytes, w32, w64}
use Rattle.box_reader.specs.Boxes.{Found, Left, behind, boxes_of, first_in, fitted, found_by, found_with, head_at, next_of, wide_head_at}
use Rattle.box_reader.specs.{Laws.{FrontsTell, front_of}, Numbers.{bytes_at, u32_at, u64_at}, declared.head.BoxHead.BoxHead}
use Rattle.box_reader.specs.{declared.head.BoxFault.BoxFault, declared.head.BoxFault.TheVariants.{Cut, Size}}
use Rattle.box_reader.proofs.Walks.{first_broken, first_ends, first_later, first_passes, next_fits}

-- ---- bytes of a front

pub take_less : (k n : ℕ) (xs : List ℕ) → k ≤ n → take k (take n xs) ≡ take k xs
take_less zero n xs less = refl
take_less (suc k) zero xs less = absurd (omega arith)
take_less (suc k) (suc n) [] less = refl
take_less (suc k) (suc n) (x ∷ xs) less = ap (λ ys. x ∷ ys) (take_less k n xs (omega arith))

drop_front : (k n : ℕ) (xs : List ℕ) → k ≤ n → drop k (take n xs) ≡ take (n - k) (drop k xs)
drop_front k n xs less =
    let same : k + (n - k) ≡ n = omega arith in
    ap (λ m. drop k (take m xs)) (sym same) ∙ drop-take k (n - k) xs

bytes_at_front : (count place n : ℕ) (bytes : List ℕ) → place + count ≤ n → bytes_at count place (take n bytes) ≡ bytes_at count place bytes
bytes_at_front count place n bytes within =
    ap (take count) (drop_front place n bytes (omega arith)) ∙ take_less count (n - place) (drop place bytes) (omega arith)

-- ---- heads of boxes

module _ (at n : ℕ) (bytes : List ℕ) (head : BoxHead) where
  abbrev front : List ℕ
  front = take n bytes

  abbrev head_with : (header size : ℕ) → List ℕ → BoxHead
  head_with header size kind = record { kind = kind; at = at; header = header; size = size }

  abbrev head_by : List ℕ → (whole wide : Bool) → (size : ℕ) → Result BoxHead BoxFault
  head_by some whole wide size = if whole then fitted at some 8 (length some)
      else (if wide then wide_head_at at some else fitted at some 8 size)

  short_front : length front ≤ length bytes × length front ≤ n
  short_front = (omega (arith, length-take n bytes), omega (arith, length-take n bytes))

  fitted_whole : (header size : ℕ) → 8 ≤ length front → fitted at front header size ≡ Ok head → fitted at bytes header size ≡ Ok head
  fitted_whole header size enough = go (nat_lt size header) (nat_lt (length front) size) refl refl
    where
      go : (short long : Bool) → nat_lt size header ≡ short → nat_lt (length front) size ≡ long
          → (if short then Err (Size at) else (if long then Err (Cut at) else Ok (head_with header size (bytes_at 4 4 front)))) ≡ Ok head
          → (if short then Err (Size at) else (if nat_lt (length bytes) size then Err (Cut at)
          else Ok (head_with header size (bytes_at 4 4 bytes)))) ≡ Ok head
      go true long s l is = cc
      go false true s l is = cc
      go false false s l is =
          let fits : nat_lt (length bytes) size ≡ false = grind (arith, nat_tests, short_front) in
          let kind : bytes_at 4 4 front ≡ bytes_at 4 4 bytes = bytes_at_front 4 4 n bytes (omega (arith, short_front)) in
          rw fits (ap (λ k. Ok (head_with header size k)) (sym kind) ∙ is)

  of_size : (header size : ℕ) → fitted at front header size ≡ Ok head → head.size ≡ size
  of_size header size = go (nat_lt size header) (nat_lt (length front) size)
    where
      go : (short long : Bool)
          → (if short then Err (Size at) else (if long then Err (Cut at)
          else Ok (record { kind = bytes_at 4 4 front; at = at; header = header; size = size }))) ≡ Ok head → head.size ≡ size
      go true long is = cc
      go false true is = cc
      go false false is = cc

  wide_whole : 8 ≤ length front → wide_head_at at front ≡ Ok head → wide_head_at at bytes ≡ Ok head
  wide_whole enough = go (nat_lt (length front) 16) refl
    where
      go : (short : Bool) → nat_lt (length front) 16 ≡ short
          → (if short then Err (Cut at) else fitted at front 16 (u64_at 8 front)) ≡ Ok head
          → (if nat_lt (length bytes) 16 then Err (Cut at) else fitted at bytes 16 (u64_at 8 bytes)) ≡ Ok head
      go true s is = cc
      go false s is =
          let within : 16 ≤ length front = grind (arith, nat_tests) in
          let long : nat_lt (length bytes) 16 ≡ false = grind (arith, nat_tests, short_front) in
          let size : u64_at 8 front ≡ u64_at 8 bytes = ap (from_be_bytes w64) (bytes_at_front 8 8 n bytes (omega (arith, short_front))) in
          rw long (subst (λ size. fitted at bytes 16 size ≡ Ok head) size (fitted_whole 16 (u64_at 8 front) enough is))

  head_whole : head_at at front ≡ Ok head → head.size < length front → head_at at bytes ≡ Ok head
  unfolding head_at
  head_whole is less = go (nat_lt (length front) 8) (u32_at 0 front == 0) (u32_at 0 front == 1) refl refl refl is
    where
      go : (short whole wide : Bool) → nat_lt (length front) 8 ≡ short → (u32_at 0 front == 0) ≡ whole → (u32_at 0 front == 1) ≡ wide
          → (if short then Err (Cut at) else head_by front whole wide (u32_at 0 front)) ≡ Ok head
          → (if nat_lt (length bytes) 8 then Err (Cut at)
          else head_by bytes (u32_at 0 bytes == 0) (u32_at 0 bytes == 1) (u32_at 0 bytes)) ≡ Ok head
      go true whole wide s w d is = cc
      go false true wide s w d is = absurd (omega (arith, less, of_size 8 (length front) is))
      go false false wide s w d is =
          let enough : 8 ≤ length front = grind (arith, nat_tests) in
          let long : nat_lt (length bytes) 8 ≡ false = grind (arith, nat_tests, short_front) in
          let size : u32_at 0 bytes ≡ u32_at 0 front =
          ap (from_be_bytes w32) (sym (bytes_at_front 4 0 n bytes (omega (arith, short_front, enough)))) in
          rw (long, size, w, d) (wider wide enough is)
        where
          wider : (wide : Bool) → 8 ≤ length front
              → (if wide then wide_head_at at front else fitted at front 8 (u32_at 0 front)) ≡ Ok head
              → (if wide then wide_head_at at bytes else fitted at bytes 8 (u32_at 0 front)) ≡ Ok head
          wider true enough is = wide_whole enough is
          wider false enough is = fitted_whole 8 (u32_at 0 front) enough is

-- ---- boxes

next_whole : (n : ℕ) (left : Left) (found : Found) → next_of (front_of n left) ≡ Ok (Some found)
    → found.head.size < length (take n left.bytes) → next_of left ≡ Ok (Some found)
unfolding next_of
next_whole n left found is less = go (length (take n left.bytes) == 0) (head_at left.at (take n left.bytes)) refl refl is
  where
    some : length (take n left.bytes) ≤ length left.bytes × length (take n left.bytes) ≤ n
    some = (omega (arith, length-take n left.bytes), omega (arith, length-take n left.bytes))

    go : (none : Bool) (h : Result BoxHead BoxFault) → (length (take n left.bytes) == 0) ≡ none → head_at left.at (take n left.bytes) ≡ h
        → (if none then Ok None else found_by (take n left.bytes) h) ≡ Ok (Some found)
        → (if length left.bytes == 0 then Ok None else found_by left.bytes (head_at left.at left.bytes)) ≡ Ok (Some found)
    go true h s e is = cc
    go false (Err fault) s e is = cc
    go false (Ok head) s e is =
        let same : found_with (take n left.bytes) head ≡ found = cc in
        let short : head.size < length (take n left.bytes) =
        subst (λ (f : Found). f.head.size < length (take n left.bytes)) (sym same) less in
        let whole = head_whole left.at n left.bytes head e short in
        let filled : (length left.bytes == 0) ≡ false = grind (arith, nat_tests, some) in
        let body : take head.size left.bytes ≡ take head.size (take n left.bytes) =
        sym (take_less head.size n left.bytes (omega (arith, some, short))) in
        rw (filled, whole) (ap (λ (b : List ℕ). Ok (Some (record { head = head; body = drop head.header b }))) body
        ∙ ap (λ f. Ok (Some f)) same)

no_box : (left : Left) → length left.bytes ≡ 0 → next_of left ≡ Ok None
unfolding next_of
no_box left none = rw none refl

nothing_in : (passes : Found → Bool) (left : Left) (found : Found) → length left.bytes ≡ 0
    → first_in passes (boxes_of left) ≡ Ok (Some found) → ⊥
nothing_in passes left found none is = (let ends = first_ends passes left (no_box left none) in cc)

module _ (passes : Found → Bool) (n : ℕ) (left : Left) (found : Found) (one : Found) where
  abbrev least : ℕ
  least = length (take n left.bytes)

  -- the first box is the one that is found
  found_here : next_of (front_of n left) ≡ Ok (Some one) → passes one ≡ true
      → first_in passes (boxes_of (front_of n left)) ≡ Ok (Some found) → found.head.at + found.head.size < left.at + least
      → first_in passes (boxes_of left) ≡ Ok (Some found)
  found_here next pass is less =
      let first = first_passes passes (front_of n left) one next pass in
      let same : one ≡ found = cc in
      let stands = (next_fits (front_of n left) one next).at in
      let ends : one.head.at + one.head.size < left.at + least =
      subst (λ (f : Found). f.head.at + f.head.size < left.at + least) (sym same) less in
      first_passes passes left one (next_whole n left one next (omega (arith, stands, ends))) pass ∙ ap (λ f. Ok (Some f)) same

  -- it stands behind the first one
  found_later : next_of (front_of n left) ≡ Ok (Some one) → passes one ≡ false
      → first_in passes (boxes_of (front_of n left)) ≡ Ok (Some found) → found.head.at + found.head.size < left.at + least
      → ((m : ℕ) → first_in passes (boxes_of (front_of m (behind one.head left))) ≡ Ok (Some found)
      → found.head.at + found.head.size < (left.at + one.head.size) + length (take m (drop one.head.size left.bytes))
      → first_in passes (boxes_of (behind one.head left)) ≡ Ok (Some found))
      → first_in passes (boxes_of left) ≡ Ok (Some found)
  found_later next fails is less later =
      let fits = next_fits (front_of n left) one next in
      let size = one.head.size in
      let behind_front : first_in passes (boxes_of (behind one.head (front_of n left))) ≡ Ok (Some found) =
      sym (first_later passes (front_of n left) one next fails) ∙ is in
      let some : length (drop size (take n left.bytes)) ≡ 0 → ⊥ =
      λ none. nothing_in passes (behind one.head (front_of n left)) found none behind_front in
      let count = length-drop size (take n left.bytes) in
      let within : size < least = inside size least (length (drop size (take n left.bytes))) fits.within count some in
      let few : size ≤ n = omega (arith, within, length-take n left.bytes) in
      let rest : drop size (take n left.bytes) ≡ take (n - size) (drop size left.bytes) = drop_front size n left.bytes few in
      let same : first_in passes (boxes_of (front_of (n - size) (behind one.head left))) ≡ Ok (Some found) =
      subst (λ bytes. first_in passes (boxes_of (record { at = left.at + size; bytes = bytes })) ≡ Ok (Some found)) rest behind_front in
      let long : length (take (n - size) (drop size left.bytes)) ≡ least - size = ap length (sym rest) ∙ count in
      first_later passes left one (next_whole n left one next within) fails
      ∙ later (n - size) same (omega (arith, less, long, within))
    where
      inside : (size least rest : ℕ) → size ≤ least → rest ≡ least - size → (rest ≡ 0 → ⊥) → size < least
      inside size least rest most is some = omega (arith, some)

found_within : (most : ℕ) (passes : Found → Bool) (n : ℕ) (left : Left) (found : Found) → length left.bytes < most
    → first_in passes (boxes_of (front_of n left)) ≡ Ok (Some found)
    → found.head.at + found.head.size < left.at + length (take n left.bytes)
    → first_in passes (boxes_of left) ≡ Ok (Some found)
found_within zero passes n left found few is less = absurd (omega (arith, few))
found_within (suc most) passes n left found few is less =
    go (λ m rest. found_within most passes m rest found) (next_of (front_of n left)) refl
  where
    go : ((m : ℕ) (rest : Left) → length rest.bytes < most → first_in passes (boxes_of (front_of m rest)) ≡ Ok (Some found)
        → found.head.at + found.head.size < rest.at + length (take m rest.bytes) → first_in passes (boxes_of rest) ≡ Ok (Some found))
        → (next : Result (Option Found) BoxFault) → next_of (front_of n left) ≡ next → first_in passes (boxes_of left) ≡ Ok (Some found)
    go within (Err fault) e = (let broken = first_broken passes (front_of n left) fault e in absurd (cc))
    go within (Ok None) e = (let ends = first_ends passes (front_of n left) e in absurd (cc))
    go within (Ok (Some one)) e = by (passes one) refl
      where
        fewer : length (drop one.head.size left.bytes) < most
        fewer =
            let fits = next_fits (front_of n left) one e in
            let short = length-take n left.bytes in
            omega (arith, few, fits.least, fits.header, fits.within, short, length-drop one.head.size left.bytes)

        by : (pass : Bool) → passes one ≡ pass → first_in passes (boxes_of left) ≡ Ok (Some found)
        by true p = found_here passes n left found one e p is less
        by false p = found_later passes n left found one e p is less (λ m. within m (behind one.head left) fewer)

pub fronts : FrontsTell
fronts passes n left found is less = found_within (length left.bytes + 1) passes n left found (omega arith) is less

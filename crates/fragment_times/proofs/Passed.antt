-- Boxes that are passed by, in the first bytes of a part.
use Rattle.std.proofs.Common.{◌≡◌, ◌<◌, ◌≤◌, ◌+◌, ◌-◌, ℕ, Bool, true, false, List, ◌++◌, length, take, drop, Option, Some, None, Result}
use Rattle.std.proofs.{Common.{Ok, Err, refl, sym, ap, ◌∙◌, arith}, lemmas.List.{drop-drop, drop-take, length-drop, length-take}}
use Rattle.std.proofs.{Common.length-append, Math.Seq.take-append_seam}
use Rattle.box_reader.specs.{Boxes.{Found, Left, behind, boxes_of, first_in, is_of, next_of}, Laws.{FrontsTell, front_of}}
use Rattle.box_reader.specs.{declared.head.BoxFault.BoxFault, declared.head.BoxHead.BoxHead}
use Rattle.box_reader.proofs.{Fronts.take_less, Walks.{first_broken, first_ends, first_later, first_passes}}
use Rattle.fragment_times.specs.{Parts.{IsFound, IsPassed, box_from}, Told.needed}

-- a box that ends within a front is a box of the whole
module _ (law : FrontsTell) (n : ℕ) (left : Left) (found : Found) (is : next_of (front_of n left) ≡ Ok (Some found))
    (ends : found.head.at + found.head.size < left.at + length (take n left.bytes)) where
  abbrev any : Found → Bool
  any one = true

  there : first_in any (boxes_of left) ≡ Ok (Some found)
  there = law any n left found (first_passes any (front_of n left) found is refl) ends

  next_by : (next : Result (Option Found) BoxFault) → next_of left ≡ next → next_of left ≡ Ok (Some found)
  next_by (Err fault) e = (let broken = first_broken any left fault e in let h = there in absurd (cc))
  next_by (Ok None) e = (let none = first_ends any left e in let h = there in absurd (cc))
  next_by (Ok (Some one)) e = e ∙ (sym (first_passes any left one e refl) ∙ there)

  next_whole : next_of left ≡ Ok (Some found)
  next_whole = next_by (next_of left) refl

module _ (law : FrontsTell) (kind : List ℕ) (first from : ℕ) (front : List ℕ) (found : Found) (within : from ≤ length front)
    (is : next_of (record { at = first + from; bytes = drop from front }) ≡ Ok (Some found))
    (ends : found.head.at + found.head.size < first + length front) where
  module _ (n : ℕ) (whole : List ℕ) (same : take n whole ≡ front) where
    abbrev rest : Left
    rest = record { at = first + from; bytes = drop from whole }

    cut : drop from front ≡ take (n - from) (drop from whole)
    cut =
        let few : from ≤ n = omega (arith, within, ap length same, length-take n whole) in
        let sum : from + (n - from) ≡ n = omega (arith, few) in
        ap (drop from) (sym same ∙ ap (λ m. take m whole) (sym sum)) ∙ drop-take from (n - from) whole

    next_in : next_of rest ≡ Ok (Some found)
    next_in =
        next_whole law (n - from) rest found (rw (sym cut) is)
        (rw (sym cut) (omega (arith, ends, within, length-drop from front)))

  -- one of another type
  pub one_more : is_of kind found ≡ false → IsPassed kind first from front → IsPassed kind first (from + found.head.size) front
  one_more other passed n whole same =
      let at : (first + from) + found.head.size ≡ first + (from + found.head.size) = omega arith in
      passed n whole same
      ∙ ap needed (first_later (is_of kind) (rest n whole same) found (next_in n whole same) other)
      ∙ ap (λ bytes. box_from kind ((first + from) + found.head.size) bytes) (drop-drop found.head.size from whole)
      ∙ ap (λ m. box_from kind m (drop (from + found.head.size) whole)) at

  -- one of the type
  pub is_found : is_of kind found ≡ true → IsFound kind first from front
  is_found here n whole same =
      ap needed (first_passes (is_of kind) (rest n whole same) found (next_in n whole same) here)
      ∙ sym (ap needed (first_passes (is_of kind) (record { at = first + from; bytes = drop from front }) found is here))

-- nothing is passed by
pub none_passed : (kind : List ℕ) (first : ℕ) (front : List ℕ) → IsPassed kind first 0 front
none_passed kind first front n whole same =
    let at : first ≡ first + 0 = omega arith in ap (λ m. box_from kind m whole) at

-- and more bytes are read
pub longer : (kind : List ℕ) (first from : ℕ) (front more : List ℕ) → IsPassed kind first from front
    → IsPassed kind first from (front ++ more)
longer kind first from front more passed n whole same =
    let few : length front ≤ n = omega (arith, ap length same, length-take n whole, length-append front more) in
    passed (length front) whole (sym (take_less (length front) n whole few) ∙ ap (take (length front)) same ∙ take-append_seam front more)

abbrev left_at : (at : ℕ) → List ℕ → Left
left_at at bytes = record { at = at; bytes = bytes }

pub further : (first from : ℕ) (front : List ℕ) (head : BoxHead)
    → behind head (left_at (first + from) (drop from front)) ≡ left_at (first + (from + head.size)) (drop (from + head.size) front)
further first from front head =
    let at : (first + from) + head.size ≡ first + (from + head.size) = omega arith in
    ap (λ n. left_at n (drop head.size (drop from front))) at
    ∙ ap (left_at (first + (from + head.size))) (drop-drop head.size from front)

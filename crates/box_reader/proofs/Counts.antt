-- Boxes that are counted one after another.
use Rattle.std.proofs.Common.{◌≡◌, ◌<◌, ◌+◌, ℕ, Bool, true, false, length, Some, Ok, cond, sym, ap, ◌∙◌, arith}
use Rattle.std.specs.Prelude.{count_by}
use Rattle.std.proofs.lemmas.List.Sums.{sum_by-cons}
use Rattle.box_reader.specs.Boxes.{Found, Left, Walk, after, behind, boxes_of, next_of}
use Rattle.box_reader.proofs.Walks.{boxes_next, shorter}

abbrev pub passing : (passes : Found → Bool) → Left → ℕ
passing passes left = count_by passes (boxes_of left).boxes

-- what is left behind a box
pub record IsBehind (passes : Found → Bool) (old : Left) (found : Found) (new : Left) : Type 0 where
  pub one : passes found ≡ true → passing passes old ≡ 1 + passing passes new
  pub none : passes found ≡ false → passing passes old ≡ passing passes new
  pub fault : (boxes_of old).fault ≡ (boxes_of new).fault
  pub fewer : length new.bytes < length old.bytes

pub left_behind : (passes : Found → Bool) (old new : Left) (found : Found) → Ok (Some found) ≡ next_of old
    → new ≡ after (next_of old) old → IsBehind passes old found new
left_behind passes old new found next left =
    let same : new ≡ behind found.head old = left ∙ ap (λ r. after r old) (sym next) in
    let walk = boxes_next old found (sym next) in
    let count : passing passes old ≡ cond (passes found) 1 0 + passing passes (behind found.head old) =
    ap (λ (w : Walk). count_by passes w.boxes) walk
    ∙ sum_by-cons (λ x. cond (passes x) 1 0) found (boxes_of (behind found.head old)).boxes in
    rw same (record {
      one = λ pass. count ∙ ap (λ b. cond b 1 0 + passing passes (behind found.head old)) pass;
      none = λ fail. count ∙ ap (λ b. cond b 1 0 + passing passes (behind found.head old)) fail ∙ omega arith;
      fault = ap (λ (w : Walk). w.fault) walk;
      fewer = shorter old found (length old.bytes) (sym next) (omega arith);
    })

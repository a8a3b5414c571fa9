-- How a list that takes a served one's place is made.
use Rattle.std.proofs.Common.{◌≡◌, ℕ, ◌<◌, Bool, ◌&&◌, not, Some, None, sym, ap, ◌∙◌, inl, inr}
use Rattle.std.proofs.Common.{arith}
use Rattle.std.proofs.{lemmas.Bool.{cases_Bool, eqb-true}, lemmas.Bool.Decides.nat_tests, lemmas.Option.{same_Some}}
use Rattle.std.specs.{Prelude.◌==◌}
use Rattle.followed_text.specs.declared.followed.FollowedText.{FollowedText}
use Rattle.publish_law.specs.declared.{joint.Shift.Shift, track.{Change.Change, Track.Track}}
use Rattle.publish_law.specs.Lists.{change_by, changed, items_with, list_with, removed_count}

pub record IsMade (track : Track) (fresh : ℕ) (shift : Shift) (ended : Bool) (change : Change) (list : FollowedText) : Type 0 where
  pub appended : change.appended ≡ fresh
  pub list_is : list ≡ list_with track.served.head change.removed ended (items_with track fresh change.removed shift)
  pub goes : 0 < fresh → change.removed ≡ removed_count track fresh
  pub comes : 0 < change.removed → 0 < fresh

pub made : (track : Track) (fresh : ℕ) (shift : Shift) (ended : Bool) (change : Change) (list : FollowedText)
    → change_by track fresh shift ended ≡ change → change.list ≡ Some list → IsMade track fresh shift ended change list
made track fresh shift ended change list is list_is = elim (cases_Bool (fresh == 0)) [
  | inr some ↦
      let by : changed track fresh (removed_count track fresh) shift ended ≡ change = rw some at is in
      let removed : removed_count track fresh ≡ change.removed = ap (λ (c : Change). c.removed) by in
      let same = ap (λ (c : Change). c.list) by ∙ list_is in record {
        appended = sym (ap (λ (c : Change). c.appended) by);
        list_is = rw (← removed) (sym (same_Some _ list same));
        goes = λ _. sym removed;
        comes = λ _. grind (arith, nat_tests);
      }
  | inl none ↦ elim (cases_Bool (ended && not track.served.head.ended)) [
    | inr stays ↦
        let by = rw (none, stays) at is in
        let never : None ≡ Some list = ap (λ (c : Change). c.list) by ∙ list_is in absurd (cc)
    | inl ends ↦
        let by : changed track 0 0 shift ended ≡ change = rw (none, ends) at is in
        let removed : 0 ≡ change.removed = ap (λ (c : Change). c.removed) by in
        let zero_is = eqb-true fresh 0 none in
        let same = ap (λ (c : Change). c.list) by ∙ list_is in record {
          appended = sym (ap (λ (c : Change). c.appended) by) ∙ sym zero_is;
          list_is = rw (zero_is, ← removed) (sym (same_Some _ list same));
          goes = λ some. absurd (omega arith);
          comes = λ some. absurd (omega arith);
        }
  ]
]

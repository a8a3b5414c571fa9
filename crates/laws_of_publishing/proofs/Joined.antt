-- Where a new list goes on from a served one.
use Rattle.std.proofs.Common.{◌≡◌, ℕ, ◌-◌, ◌≤◌, true, false, List, [], ◌∷◌, length, Option, Some, None, refl, inl}
use Rattle.std.proofs.Common.{inr, arith}
use Rattle.std.proofs.{lemmas.Bool.{cases_Bool, cases_lt, lt-ltb}, lemmas.List.Sums.suffix_len-le-length}
use Rattle.std.proofs.lemmas.Option.{slice_get-get_or}
use Rattle.std.specs.Prelude.{is_some}
use Rattle.hls_writer.specs.declared.items.MediaItem.{MediaItem}
use Rattle.publish_law.specs.declared.joint.{Joint.Joint, Shift.Shift}
use Rattle.publish_law.specs.Joints.{before_last, is_unlisted, joint_of, joint_with, last_of, later_count, later_than, same_item}
use Rattle.publish_law.specs.Joints.{unlisted_count}

-- The new list has the served one's last segment, by which section numbers rise.
pub record IsFound (served new : List MediaItem) (fresh : ℕ) (shift : Shift) : Type 0 where
  pub last : MediaItem
  pub item : MediaItem
  pub last_is : last_of served ≡ Some last
  pub item_is : before_last fresh new ≡ Some item
  pub same : same_item item last ≡ true
  pub up : shift.up ≡ last.section
  pub down : shift.down ≡ item.section

pub record IsJoint (served new : List MediaItem) (joint : Joint) : Type 0 where
  pub few : joint.fresh ≤ length new
  pub unlisted : joint.fresh ≤ unlisted_count served new
  pub found : (shift : Shift) → joint.found ≡ Some shift → IsFound served new joint.fresh shift
  pub met : (shift : Shift) → joint.found ≡ Some shift → joint.met ≡ true
  pub later : (last : MediaItem) → joint.found ≡ None → last_of served ≡ Some last → joint.fresh ≤ later_count last.date new
  pub back : joint.met ≡ false → unlisted_count served new ≡ length new

pub before_none : (n : ℕ) (items : List MediaItem) → before_last n items ≡ None → length items ≤ n
before_none n [] is = omega arith
before_none n (x ∷ xs) is = elim (cases_lt n (length (x ∷ xs))) [
  | inl less ↦
      let there = slice_get-get_or (x ∷ xs) (length (x ∷ xs) - n - 1) x (omega arith) in
      let none = rw (lt-ltb n (length (x ∷ xs)) less) at is in absurd (cc (there, none))
  | inr enough ↦ enough
]

module _ (served new : List MediaItem) where
  most : unlisted_count served new ≤ length new
  most = suffix_len-le-length (is_unlisted served) new

  back_is : (met : Option MediaItem) → before_last (unlisted_count served new) new ≡ met → is_some met ≡ false
      → unlisted_count served new ≡ length new
  back_is None is none = let all = before_none (unlisted_count served new) new is in omega (arith, most)
  back_is (Some item) is none = absurd (cc)

  joint_by : (last met : Option MediaItem) → last_of served ≡ last → before_last (unlisted_count served new) new ≡ met
      → IsJoint served new (joint_with last met (unlisted_count served new) (later_than last new))
  joint_by None met last_is met_is = record {
    few = most;
    unlisted = omega arith;
    found = λ shift is. absurd (cc);
    met = λ shift is. absurd (cc);
    later = λ last none some. absurd (cc);
    back = back_is met met_is;
  }
  joint_by (Some last) None last_is met_is = record {
    few = omega (arith, most);
    unlisted = omega arith;
    found = λ shift is. absurd (cc);
    met = λ shift is. absurd (cc);
    later = λ other none some. let same : last ≡ other = cc in rw (← same) (omega arith);
    back = back_is None met_is;
  }
  joint_by (Some last) (Some item) last_is met_is = elim (cases_Bool (same_item item last)) [
    | inl same ↦ rw same (record {
      few = most;
      unlisted = omega arith;
      found = λ shift is. record {
        last = last;
        item = item;
        last_is = last_is;
        item_is = met_is;
        same = same;
        up = cc;
        down = cc;
      };
      met = λ shift is. refl;
      later = λ other none some. absurd (cc);
      back = λ none. absurd (cc);
    })
    | inr other ↦ rw other (record {
      few = omega (arith, most);
      unlisted = omega arith;
      found = λ shift is. absurd (cc);
      met = λ shift is. refl;
      later = λ next none some. let same : last ≡ next = cc in rw (← same) (omega arith);
      back = λ none. absurd (cc);
    })
  ]

pub joint_is : (served new : List MediaItem) → IsJoint served new (joint_of served new)
unfolding joint_of
joint_is served new = joint_by served new (last_of served) (before_last (unlisted_count served new) new) refl refl

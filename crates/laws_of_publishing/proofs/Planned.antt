-- What is planned for the tracks of a publication.
use Rattle.publish_law.specs.declared.fault.PublishFault.TheVariants as fault
use Rattle.std.proofs.Common.{◌≡◌, ℕ, Bool, true, false, ◌&&◌, not, List, map, ◌⊎◌, Option, Some, None, Result, Ok, Err, refl, sym, ap}
use Rattle.std.proofs.Common.{◌∙◌, inl, inr}
use Rattle.std.proofs.lemmas.Bool.{cases_Bool}
use Rattle.std.proofs.{lemmas.List.Folds.list_any_at, lemmas.Option.{get_or_from_slice_get, slice_get_within}}
use Rattle.std.specs.List.{list_all, list_any, slice_get}
use Rattle.bridge_io.specs.Answer.{and_then}
use Rattle.publish_law.specs.declared.{fault.PublishFault.PublishFault, plan.{Options.Options, Plan.Plan, Publication.Publication}}
use Rattle.publish_law.specs.declared.{track.Track.Track}
use Rattle.publish_law.specs.Plans.{change_of, cut_plan, is_back, is_new_ended, is_served_ended, long_from, plan_after}
use Rattle.publish_law.specs.Plans.{plan_live}
use Rattle.publish_law.specs.Plans.{first_place, has_other_digits, plan_of, plan_on, plan_with, published, published_by, share_of}
use Rattle.publish_law.specs.Plans.{unless_long}
use Rattle.laws_of_publishing.specs.Laws.{Accepted}

-- No served list is ended: sections rise by one number, unless nothing but a list of long ago may come.
pub record IsOn (options : Options) (tracks : List Track) (plan : Plan) : Type 0 where
  pub back : Bool
  pub ending : Bool
  pub ending_is : ending ≡ (options.end && list_all is_new_ended tracks)
  pub not_all : list_all is_served_ended tracks ≡ false
  pub are_open : list_any is_served_ended tracks ≡ false
  pub are_back : back ≡ list_all is_back tracks
  pub may : back ≡ true → options.back ≡ true
  pub plan_is : plan ≡ plan_with back ending (share_of back tracks)

-- some are ended already, and the others go on to their ends
pub record IsCut (tracks : List Track) (plan : Plan) : Type 0 where
  pub some_ended : list_any is_served_ended tracks ≡ true
  pub plan_is : plan ≡ cut_plan

pub record IsPlanned (options : Options) (tracks : List Track) (publication : Publication) : Type 0 where
  pub plan : Plan
  pub kind : IsOn options tracks plan ⊎ IsCut tracks plan
  pub digits : first_place has_other_digits 0 tracks ≡ None
  pub course : publication.course ≡ plan.share.course
  pub changes : publication.changes ≡ map (change_of plan) tracks

plan_is_one : (one other : Plan) → ◌≡◌ {A = Result Plan PublishFault} (Ok one) (Ok other) → one ≡ other
plan_is_one one other is = cc

publication_is_one : (one other : Publication) → ◌≡◌ {A = Result Publication PublishFault} (Ok one) (Ok other) → one ≡ other
publication_is_one one other is = cc

not_false : (b : Bool) → not b ≡ false → b ≡ true
not_false true is = refl
not_false false is = sym is

module _ (options : Options) (tracks : List Track) where
  on_by : (plan : Plan) → list_all is_served_ended tracks ≡ false → list_any is_served_ended tracks ≡ false
      → plan_on options (list_all is_back tracks) tracks ≡ Ok plan → IsOn options tracks plan
  on_by plan not_all going is = elim (cases_Bool (list_all is_back tracks && not options.back)) [
    | inl back ↦ let never : Err fault.Back ≡ Ok plan = rw back at is in absurd (cc)
    | inr on ↦ record {
      back = list_all is_back tracks;
      ending = options.end && list_all is_new_ended tracks;
      ending_is = refl;
      not_all = not_all;
      are_open = going;
      are_back = refl;
      may = λ back. not_false options.back (rw back at on);
      plan_is = sym (plan_is_one _ plan (rw on at is));
    }
  ]

  live_by : (plan : Plan) → plan_live options tracks ≡ Ok plan → IsOn options tracks plan ⊎ IsCut tracks plan
  live_by plan is = elim (cases_Bool (list_all is_served_ended tracks)) [
    | inl ended ↦ let never : Err fault.Ended ≡ Ok plan = rw ended at is in absurd (cc)
    | inr not_all ↦ elim (cases_Bool (list_any is_served_ended tracks)) [
      | inl some ↦ inr (record { some_ended = some; plan_is = sym (plan_is_one cut_plan plan (rw (not_all, some) at is)) })
      | inr going ↦ inl (on_by plan not_all going (rw (not_all, going) at is))
    ]
  ]

  digits_by : (plan : Plan) (place : Option ℕ) → plan_after options tracks place ≡ Ok plan
      → (place ≡ None) × (plan_live options tracks ≡ Ok plan)
  digits_by plan (Some track) is = absurd (cc)
  digits_by plan None is = (refl, is)

  plan_by : (plan : Plan) → plan_of options tracks ≡ Ok plan
      → (first_place has_other_digits 0 tracks ≡ None) × (plan_live options tracks ≡ Ok plan)
  unfolding plan_of
  plan_by plan is = digits_by plan (first_place has_other_digits 0 tracks) is

  made_by : (publication : Publication) (plan : Plan) (long : Option (ℕ × ℕ)) → plan_of options tracks ≡ Ok plan
      → unless_long long plan tracks ≡ Ok publication → IsPlanned options tracks publication
  made_by publication plan (Some at) plan_is is = absurd (cc)
  made_by publication plan None plan_is is =
      let same = publication_is_one _ publication is in
      record {
        plan = plan;
        kind = live_by plan (plan_by plan plan_is).1;
        digits = (plan_by plan plan_is).0;
        course = sym (ap (λ (p : Publication). p.course) same);
        changes = sym (ap (λ (p : Publication). p.changes) same);
      }

  planned_by : (publication : Publication) (plan : Result Plan PublishFault) → plan_of options tracks ≡ plan
      → and_then plan (published_by tracks) ≡ Ok publication → IsPlanned options tracks publication
  planned_by publication (Err fault) plan_is is = absurd (cc)
  planned_by publication (Ok plan) plan_is is = made_by publication plan (long_from plan 0 tracks) plan_is is

pub planned_of : (options : Options) (tracks : List Track) (publication : Publication) → published options tracks ≡ Ok publication
    → IsPlanned options tracks publication
unfolding published
planned_of options tracks publication is = planned_by options tracks publication (plan_of options tracks) refl is

pub planned : (a : Accepted) → IsPlanned a.options a.tracks a.publication
planned a = planned_of a.options a.tracks a.publication a.is

-- what no element of a list passes
pub none_at : {X : Type 0} (p : X → Bool) (xs : List X) (k : ℕ) (x : X) → list_any p xs ≡ false → slice_get xs k ≡ Some x → p x ≡ false
none_at p xs k x none is = elim (cases_Bool (p x)) [
  | inl some ↦
      let here = ap p (get_or_from_slice_get xs k x x is) ∙ some in
      let any = list_any_at p xs k x (slice_get_within xs k x is) here in absurd (cc)
  | inr other ↦ other
]

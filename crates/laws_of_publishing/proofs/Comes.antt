-- What comes to a track of which a list takes the served one's place.
use Rattle.std.proofs.Common.{cond, subst, map, ◌≡◌, ℕ, ◌≤◌, Bool, true, false, ◌⊎◌, Option, Some, None, refl, sym}
use Rattle.std.proofs.Common.{ap, ◌∙◌, inl, inr, arith}
use Rattle.std.proofs.{lemmas.Bool.cases_Bool, lemmas.Bool.Decides.nat_tests, lemmas.List.Sums.AllPass-from_list_all, Common.length}
use Rattle.std.proofs.lemmas.Option.{same_Some, slice_get-map}
use Rattle.std.specs.{Prelude.option_map, List.{slice_get}}
use Rattle.hls_writer.specs.declared.items.MediaItem.{MediaItem}
use Rattle.publish_law.specs.declared.{joint.Shift.Shift, plan.{Options.Options, Plan.Plan}, track.{Change.Change, Track.Track}}
use Rattle.publish_law.specs.{Joints.{last_of, later_count, unlisted_count}, Lists.{change_by, no_shift}}
use Rattle.publish_law.specs.Plans.{change_of, cut_part, fresh_of, is_back, is_served_ended, share_of}
use Rattle.laws_of_publishing.specs.Laws.{Accepted, IsTrack, Replaced}
use Rattle.laws_of_publishing.proofs.{Joined.{IsFound, IsJoint, joint_is}, Made.{IsMade, made}, Planned.{IsCut, IsOn, none_at}}
use Rattle.laws_of_publishing.proofs.{Tails.at_place}

-- so many of the last new segments come, which are none that is served
pub record IsFresh (options : Options) (track : Track) (fresh : ℕ) : Type 0 where
  pub few : fresh ≤ length track.new.items
  pub unlisted : fresh ≤ unlisted_count track.served.items track.new.items
  pub later : (last : MediaItem) → options.back ≡ false → track.joint.found ≡ None → last_of track.served.items ≡ Some last
      → fresh ≤ later_count last.date track.new.items
  pub found : (shift : Shift) → track.joint.found ≡ Some shift
      → (fresh ≡ 0) ⊎ IsFound track.served.items track.new.items fresh shift

module _ (a : Accepted) (r : Replaced a) where
  pub track_is : IsTrack r.track
  track_is = at_place IsTrack a.tracks r.place r.track a.are_tracks r.track_is

  joint : IsJoint r.track.served.items r.track.new.items r.track.joint
  joint = rw track_is.joint (joint_is r.track.served.items r.track.new.items)

  none_fresh : IsFresh a.options r.track 0
  none_fresh = record {
    few = omega arith;
    unlisted = omega arith;
    later = λ last back none is. omega arith;
    found = λ shift is. inl refl;
  }

  joint_fresh : IsFresh a.options r.track r.track.joint.fresh
  joint_fresh = record {
    few = joint.few;
    unlisted = joint.unlisted;
    later = λ last back none is. joint.later last none is;
    found = λ shift is. inr (joint.found shift is);
  }

  pub change_is : (plan : Plan) → a.publication.changes ≡ map (change_of plan) a.tracks → change_of plan r.track ≡ r.change
  change_is plan changes =
      let there = slice_get-map (change_of plan) a.tracks r.place in
      let none = ap (λ cs. slice_get cs r.place) changes in
      same_Some _ _ (sym (ap (λ t. option_map (change_of plan) t) r.track_is) ∙ sym there ∙ sym none ∙ r.change_is)

  pub record Comes (fresh : ℕ) (shift : Shift) (ended : Bool) : Type 0 where
    pub made : IsMade r.track fresh shift ended r.change r.list
    pub fresh_is : IsFresh a.options r.track fresh
    pub is_open : r.track.served.head.ended ≡ false

  all_fresh : (plan : Plan) (on : IsOn a.options a.tracks plan) → on.back ≡ true → IsFresh a.options r.track (length r.track.new.items)
  all_fresh plan on all =
      let each = AllPass-from_list_all is_back a.tracks (sym on.are_back ∙ all) in
      let is = at_place (λ (t : Track). is_back t ≡ true) a.tracks r.place r.track each r.track_is in
      let unmet : r.track.joint.met ≡ false = grind (arith, nat_tests) in
      let whole = joint.back unmet in
      let may = on.may all in record {
        few = omega arith;
        unlisted = omega arith;
        later = λ last back none is. absurd (cc);
        found = λ shift is. let met = joint.met shift is in absurd (cc);
      }

  pub on_comes : (plan : Plan) (on : IsOn a.options a.tracks plan) → a.publication.changes ≡ map (change_of plan) a.tracks
      → Comes (fresh_of on.back r.track) (share_of on.back a.tracks).shift on.ending
  on_comes plan on changes =
      let back = on.back in
      let change = rw on.plan_is at (change_is plan changes) in record {
        made = made r.track (fresh_of back r.track) (share_of back a.tracks).shift on.ending r.change r.list change r.list_is;
        fresh_is = elim (cases_Bool on.back) [ inl all ↦ rw all (all_fresh plan on all) | inr some ↦ rw some joint_fresh ];
        is_open = none_at is_served_ended a.tracks r.place r.track on.are_open r.track_is;
      }

  -- after a cut each track that is found rises by its own number
  pub record ComesToEnd : Type 0 where
    pub fresh : ℕ
    pub shift : Shift
    pub comes : Comes fresh shift true
    pub own : (fresh ≡ 0) ⊎ ((r.track.joint.found ≡ Some shift) × (fresh ≡ r.track.joint.fresh))

  found_comes : (found : Option Shift) → r.track.joint.found ≡ found → r.track.served.head.ended ≡ false
      → change_by r.track (cut_part r.track found).0 (cut_part r.track found).1 true ≡ r.change → ComesToEnd
  found_comes None is going change = record {
    fresh = 0;
    shift = no_shift;
    comes = record { made = made r.track 0 no_shift true r.change r.list change r.list_is; fresh_is = none_fresh; is_open = going };
    own = inl refl;
  }
  found_comes (Some shift) is going change = record {
    fresh = r.track.joint.fresh;
    shift = shift;
    comes = record {
      made = made r.track r.track.joint.fresh shift true r.change r.list change r.list_is;
      fresh_is = joint_fresh;
      is_open = going;
    };
    own = inr (is, refl);
  }

  pub cut_comes : (plan : Plan) → IsCut a.tracks plan → a.publication.changes ≡ map (change_of plan) a.tracks → ComesToEnd
  cut_comes plan cut changes =
      let change = rw cut.plan_is at (change_is plan changes) in
      elim (cases_Bool r.track.served.head.ended) [
        | inl ended ↦ let stays = rw ended at change in
            let never : None ≡ Some r.list = ap (λ (c : Change). c.list) stays ∙ r.list_is in absurd (cc)
        | inr going ↦
            let part : Bool → ℕ × Shift = λ ended. cond ended (0, no_shift) (cut_part r.track r.track.joint.found) in
            let P : Bool → Type 0 = λ ended. change_by r.track (part ended).0 (part ended).1 true ≡ r.change in
            found_comes r.track.joint.found refl going (subst P going change)
      ]

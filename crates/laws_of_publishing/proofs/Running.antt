-- A run that goes on is served as it is.
use Rattle.std.proofs.Common.{◌≡◌, ℕ, zero, suc, ◌+◌, ◌-◌, ◌^◌, ◌<◌, ◌≤◌, min, Bool, true, false, List, [], ◌∷◌, length, map}
use Rattle.std.proofs.Common.{drop}
use Rattle.std.proofs.Common.{get_or, leb, Option, Some, None, refl, sym, ap, ◌∙◌, inl, inr, arith, length-append, length-drop}
use Rattle.std.proofs.{Common.ltb, lemmas.Bool.{cases_Bool, cases_lt, eq-eqb, leb-false, lt-ltb}}
use Rattle.std.proofs.lemmas.{List.{get_or-append_right, get_or-drop, get_or-map, get_or_append_left, length-map}, List.Elements.All-drop}
use Rattle.std.proofs.lemmas.List.{Folds.{list_all_at, list_any_at, map_fixed}}
use Rattle.std.proofs.lemmas.List.{Sums.{list_all-from_AllPass, suffix_len_is, sum_by-append, sum_by-cons}}
use Rattle.std.proofs.lemmas.Option.{get_or_from_slice_get, same_Some, slice_get_within, slice_get-get_or}
use Rattle.std.specs.{Prelude.fold, List.{All, list_all, slice_get}, Option.option_eq}
use Rattle.std.proofs.lemmas.Cmp.{int_eq_equiv}
use Rattle.bridge_io.proofs.Texts.{equals_itself}
use Rattle.url_parts.specs.declared.range.Range.{Range}
use Rattle.reload_law.specs.Rules.{same_range}
use Rattle.hls_writer.specs.declared.items.MediaItem.{MediaItem}
use Rattle.followed_text.specs.declared.followed.FollowedText.{FollowedText}
use Rattle.publish_law.specs.declared.{joint.{Joint.Joint, Shift.Shift}, track.Track.Track}
use Rattle.publish_law.specs.Joints.{before_last, is_unlisted, joint_of, last_of, same_item, unlisted_count}
use Rattle.publish_law.specs.Lists.{first_section, fresh_items, gone, most_gone, shifted, three_targets, units_of}
use Rattle.publish_law.specs.Plans.{fresh_of, greater, greatest_shift, is_back, is_clear, least_of_all, share_from, share_of, share_with}
use Rattle.laws_of_publishing.specs.Laws.{Accepted, IsTrack, Replaced, RunsAreServed, RunsOn}
use Rattle.laws_of_publishing.proofs.{Comes.{Comes, cut_comes, on_comes, track_is}, Going.{appended_is, goes_on, tail_of}, Planned.planned}
use Rattle.laws_of_publishing.proofs.{Risen.greatest_bounds, Tails.at_place}

-- ---- a segment is the same as itself

same_ranges : (r : Option Range) → option_eq same_range r r ≡ true
same_ranges None = refl
same_ranges (Some r) = rw (eq-eqb r.first r.first refl, eq-eqb r.count r.count refl) refl

-- whatever its section is
pub same_itself : (item : MediaItem) (section : ℕ) → same_item item (record item { section = section }) ≡ true
same_itself item section =
    rw (
      int_eq_equiv.refl item.date,
      equals_itself item.address,
      same_ranges item.range,
      equals_itself item.map.address,
      same_ranges item.map.range,
    ) refl

-- ---- as many go as went

drop_less : (n : ℕ) (items : List MediaItem) → units_of (drop n items) ≤ units_of items
drop_less zero items = omega arith
drop_less (suc n) [] = omega arith
drop_less (suc n) (item ∷ items) = omega (arith, drop_less n items, sum_by-cons (λ (x : MediaItem). x.duration) item items)

gone_enough : (left wanted : ℕ) (items : List MediaItem) (n : ℕ) → left ≡ units_of items → n ≤ length items
    → wanted ≤ units_of (drop n items) → n ≤ gone left wanted items
gone_enough left wanted [] n is few enough = few
gone_enough left wanted (item ∷ items) zero is few enough = omega arith
gone_enough left wanted (item ∷ items) (suc n) is few enough =
    let sum = sum_by-cons (λ (x : MediaItem). x.duration) item items in
    let rest = drop_less n items in
    elim (cases_Bool (leb wanted (left - item.duration))) [
      | inl fits ↦
          let more = gone_enough (left - item.duration) wanted items n (omega arith) (omega arith) enough in rw fits (omega (arith, more))
      | inr less ↦ let above = leb-false wanted (left - item.duration) less in absurd (omega (arith, above, rest))
    ]

-- ---- lists by their last segments

abbrev pub Last : List MediaItem → Type 0
Last items = (last : MediaItem) × ((last_of items ≡ Some last) × (get_or items (length items - 1) last ≡ last))

pub last_there : (items : List MediaItem) → 0 < length items → Last items
last_there [] some = absurd (omega arith)
last_there (x ∷ xs) some =
    let last = get_or (x ∷ xs) (length xs) x in
    let at = slice_get-get_or (x ∷ xs) (length xs) x (omega arith) in
    let here : length (x ∷ xs) - 0 - 1 ≡ length xs = omega arith in
    let place : length (x ∷ xs) - 1 ≡ length xs = omega arith in
    let there : slice_get (x ∷ xs) (length (x ∷ xs) - 0 - 1) ≡ Some last = ap (λ k. slice_get (x ∷ xs) k) here ∙ at in (
      last,
      (
        rw (lt-ltb 0 (length (x ∷ xs)) (omega arith)) there,
        rw place (get_or_from_slice_get (x ∷ xs) (length xs) last last at),
      ),
    )

-- sections that are level stay as they are
abbrev level_shift : MediaItem → Shift
level_shift last = record { up = last.section; down = last.section }

module _ (track : Track) (is : IsTrack track) (on : RunsOn track) where
  new_count : length track.new.items ≡ length track.served.items - on.gone + length on.more
  new_count = rw on.items (simp (length-append, length-drop))

  abbrev last : Last track.served.items
  last = last_there track.served.items is.some_served

  -- the served list's last segment stands before those that come
  last_at : get_or track.new.items (length track.new.items - length on.more - 1) last.0 ≡ last.0
  last_at =
      let stay = on.some_stay in
      let count = new_count in
      let front = length-drop on.gone track.served.items in
      let k = length track.new.items - length on.more - 1 in
      let place : on.gone + k ≡ length track.served.items - 1 = omega arith in
      ap (λ items. get_or items k last.0) on.items
      ∙ get_or_append_left (drop on.gone track.served.items) on.more last.0 k (omega arith)
      ∙ get_or-drop on.gone track.served.items k last.0
      ∙ ap (λ n. get_or track.served.items n last.0) place ∙ last.1.1

  last_listed : is_unlisted track.served.items last.0 ≡ false
  last_listed =
      let some = is.some_served in
      let same = ap (λ (x : MediaItem). same_item last.0 x) last.1.1 ∙ same_itself last.0 last.0.section in
      let any = list_any_at (same_item last.0) track.served.items (length track.served.items - 1) last.0 (omega arith) same in
      rw any refl

  unlisted_is : unlisted_count track.served.items track.new.items ≡ length on.more
  unlisted_is =
      let count = new_count in
      let stay = on.some_stay in
      let front = length-drop on.gone track.served.items in
      let n = length track.new.items - length on.more in
      let behind : (k : ℕ) → n ≤ k → k < length track.new.items → is_unlisted track.served.items (get_or track.new.items k last.0) ≡ true =
      λ k from within.
      let there = ap (λ items. get_or items k last.0) on.items
      ∙ get_or-append_right (drop on.gone track.served.items) on.more n k last.0 (omega arith) from in
      ap (is_unlisted track.served.items) there ∙ on.unlisted (k - n) last.0 (omega arith) in
      let before = λ (some : 0 < n). ap (is_unlisted track.served.items) last_at ∙ last_listed in
      let is = suffix_len_is (is_unlisted track.served.items) track.new.items n last.0 (omega arith) behind before in omega arith

  met_is : before_last (length on.more) track.new.items ≡ Some last.0
  met_is =
      let count = new_count in
      let stay = on.some_stay in
      let k = length track.new.items - length on.more - 1 in
      let at = slice_get-get_or track.new.items k last.0 (omega arith) ∙ ap Some last_at in
      rw (lt-ltb (length on.more) (length track.new.items) (omega arith)) at

  pub joint_runs : track.joint ≡ record { met = true; found = Some (level_shift last.0); fresh = length on.more }
  unfolding joint_of
  joint_runs = is.joint ∙ rw (unlisted_is, last.1.0, met_is, same_itself last.0 last.0.section) refl

-- ---- sections that rise by nothing

abbrev IsLevel : Option Shift → Type 0
IsLevel shift = (s : Shift) → shift ≡ Some s → s.up ≡ s.down

greater_level : (a b : Option Shift) → IsLevel a → IsLevel b → IsLevel (greater a b)
greater_level None b first second = second
greater_level (Some a) None first second = first
greater_level (Some a) (Some b) first second = elim (cases_Bool (ltb (a.up + b.down) (b.up + a.down))) [
  | inl above ↦ rw above second
  | inr below ↦ rw below first
]

greatest_level : (first : Option Shift) (tracks : List Track) → IsLevel first
    → ((k : ℕ) (track : Track) → slice_get tracks k ≡ Some track → IsLevel track.joint.found)
    → IsLevel (fold (λ (shift : Option Shift) (t : Track). greater shift t.joint.found) first tracks)
greatest_level first [] level each = level
greatest_level first (t ∷ ts) level each =
    greatest_level (greater first t.joint.found) ts (greater_level first t.joint.found level (each 0 t refl)) (λ k track is. each
    (suc k) track is)

module _ (a : Accepted) (all : All RunsOn a.tracks) where
  found_of : (track : Track) (is : IsTrack track) (on : RunsOn track)
      → track.joint.found ≡ Some (level_shift (last_there track.served.items is.some_served).0)
  found_of track is on = ap (λ (j : Joint). j.found) (joint_runs track is on)

  level_at : (k : ℕ) (track : Track) → slice_get a.tracks k ≡ Some track → IsLevel track.joint.found
  level_at k track here = λ s found.
      let is = at_place IsTrack a.tracks k track a.are_tracks here in
      let on = at_place RunsOn a.tracks k track all here in
      let same = sym (found_of track is on) ∙ found in
      let up = ap (λ (x : Shift). x.up) (same_Some _ _ same) in
      let down = ap (λ (x : Shift). x.down) (same_Some _ _ same) in sym up ∙ down

  clear : (e : ℕ) (most : Shift) → list_all (is_clear e most) a.tracks ≡ true
  clear e most = list_all-from_AllPass (is_clear e most) a.tracks (λ k d within.
      let track = get_or a.tracks k d in rw (found_of track (a.are_tracks k d within) (all k d within)) refl)

  with_level : (e : ℕ) (most : Option Shift) → greatest_shift a.tracks ≡ most → (k : ℕ) (track : Track) → slice_get a.tracks k ≡ Some track
      → (share_with e most a.tracks).shift.up ≡ (share_with e most a.tracks).shift.down
  with_level e None none k track here =
      let is = at_place IsTrack a.tracks k track a.are_tracks here in
      let on = at_place RunsOn a.tracks k track all here in
      let bound = greatest_bounds a.tracks k track here _ (found_of track is on) in absurd (cc (bound.1.0, none))
  with_level e (Some most) some k track here =
      rw (clear e most) (greatest_level None a.tracks (λ s is. absurd (cc)) level_at most some)

  from_level : (least : Option ℕ) (k : ℕ) (track : Track) → slice_get a.tracks k ≡ Some track
      → (share_from least a.tracks).shift.up ≡ (share_from least a.tracks).shift.down
  from_level None k track here = refl
  from_level (Some e) k track here = with_level e (greatest_shift a.tracks) refl k track here

  share_level : (back : Bool) (k : ℕ) (track : Track) → slice_get a.tracks k ≡ Some track
      → (share_of back a.tracks).shift.up ≡ (share_of back a.tracks).shift.down
  unfolding share_of
  share_level back k track here = from_level (least_of_all back a.tracks) k track here

-- ---- the list

same_text : (one other : FollowedText) → one.head.target ≡ other.head.target → one.head.sequence ≡ other.head.sequence
    → one.head.first_section ≡ other.head.first_section → one.head.digits ≡ other.head.digits → one.items ≡ other.items
    → one ≡ record other { head = record other.head { ended = one.head.ended } }
same_text one other target sequence first digits items =
    let same : record {
      head = record {
        target = one.head.target;
        sequence = one.head.sequence;
        first_section = one.head.first_section;
        ended = one.head.ended;
        digits = one.head.digits;
      };
      items = one.items;
    } ≡ record other {
      head = record other.head {
        ended = one.head.ended;
      };
    } = rw (target, sequence, first, digits, items) refl in same

module _ (a : Accepted) (r : Replaced a) (is : IsTrack r.track) (on : RunsOn r.track) (fresh : ℕ) (shift : Shift) (ended : Bool)
    (c : Comes a r fresh shift ended) (fresh_is : fresh ≡ length on.more) (some : 0 < fresh) (level : shift.up ≡ shift.down) where
  fresh_are : fresh_items r.track fresh ≡ on.more
  fresh_are = ap (λ items. drop (length items - fresh) items) on.items
      ∙ tail_of (drop on.gone r.track.served.items) on.more fresh fresh_is

  stay_enough : on.gone ≤ gone (units_of r.track.served.items) (three_targets r.track.served.head - units_of (fresh_items r.track fresh))
      r.track.served.items
  stay_enough = elim (cases_lt 0 on.gone) [
    | inr none ↦ omega arith
    | inl goes ↦
        let lasts = on.lasts goes in
        let all = ap units_of on.items ∙ sum_by-append (λ (x : MediaItem). x.duration) (drop on.gone r.track.served.items) on.more in
        let come = ap units_of fresh_are in
        let less = on.some_stay in
        gone_enough (units_of r.track.served.items) _ r.track.served.items on.gone refl (omega arith) (omega (arith, all, come, lasts))
  ]

  removed_is : r.change.removed ≡ on.gone
  removed_is =
      let count = c.made.goes some in
      let found = ap (λ (j : Joint). j.found) (joint_runs r.track is on) in
      let most : most_gone r.track fresh ≡ min (fresh + 1) (2 ^ 64 - 1) = rw found refl in
      let new = new_count r.track is on in
      let stay = on.some_stay in
      let no_more = on.few_go in
      let few = on.few in
      omega (arith, stay_enough, most, count)

  stays : All (λ (x : MediaItem). shifted shift x ≡ x) on.more
  stays k d within =
      let x = get_or on.more k d in
      let same = appended_is a r fresh shift ended c ∙ ap (map (shifted shift)) fresh_are in
      let small = All-drop (λ (x : MediaItem). x.section < 2 ^ 63)
      (length r.list.items - r.change.appended) r.list.items r.small.sections in
      let all : All (λ (x : MediaItem). x.section < 2 ^ 63) (map (shifted shift) on.more) = rw same at small in
      let below : (get_or (map (shifted shift) on.more) k d).section < 2 ^ 63 =
      all k d (omega (arith, length-map on.more (shifted shift))) in
      let here = rw (get_or-map (shifted shift) on.more k d d within) at below in
      let section : min (x.section + shift.up - shift.down) (2 ^ 64 - 1) ≡ x.section = omega (arith, here) in
      ap (λ n. record x { section = n }) section

  items_are : r.list.items ≡ r.track.new.items
  items_are = ap (λ (l : FollowedText). l.items) c.made.list_is
      ∙ rw (removed_is, fresh_are, map_fixed (shifted shift) on.more stays) (sym on.items)

  first_any : (items : List MediaItem) (one other : ℕ) → 0 < length items → first_section one items ≡ first_section other items
  first_any [] one other some = absurd (omega arith)
  first_any (x ∷ xs) one other some = refl

  first_is : r.list.head.first_section ≡ r.track.new.head.first_section
  first_is =
      let first = ap (λ (l : FollowedText). l.head.first_section) c.made.list_is in
      let items = sym (ap (λ (l : FollowedText). l.items) c.made.list_is) ∙ items_are in
      first ∙ ap (first_section r.track.served.head.first_section) items
      ∙ first_any r.track.new.items r.track.served.head.first_section 0 is.some_new ∙ sym on.first

  served_so : r.list ≡ record r.track.new { head = record r.track.new.head { ended = r.list.head.ended } }
  served_so =
      let on_is = goes_on a r fresh shift ended c in
      let sequence : r.list.head.sequence ≡ r.track.new.head.sequence = omega (arith, on_is.sequence, removed_is, on.sequence) in
      same_text r.list r.track.new (on_is.target ∙ sym on.target) sequence first_is (on_is.digits ∙ sym on.digits) items_are

pub runs_are_served : RunsAreServed
runs_are_served a r all some =
    let is = track_is a r in
    let on = at_place RunsOn a.tracks r.place r.track all r.track_is in
    let joint = joint_runs r.track is on in
    elim (planned a).kind [
      | inl plan ↦
          let c = on_comes a r (planned a).plan plan (planned a).changes in
          let met : is_back r.track ≡ false = rw (ap (λ (j : Joint). j.met) joint) refl in
          let here = get_or_from_slice_get a.tracks r.place r.track r.track r.track_is in
          let within = slice_get_within a.tracks r.place r.track r.track_is in
          let back = plan.are_back ∙ list_all_at is_back a.tracks r.place r.track within (ap is_back here ∙ met) in
          let fresh : fresh_of plan.back r.track ≡ length on.more = rw back (ap (λ (j : Joint). j.fresh) joint) in
          served_so a r is on _ _ plan.ending c fresh (omega (arith, c.made.appended, some))
          (share_level a all plan.back r.place r.track r.track_is)
      | inr cut ↦
          let end = cut_comes a r (planned a).plan cut (planned a).changes in
          let count = end.comes.made.appended in
          elim end.own [
            | inl none ↦ absurd (omega (arith, none, count, some))
            | inr own ↦ served_so a r is on end.fresh end.shift true end.comes (own.1 ∙ ap (λ (j : Joint). j.fresh) joint)
                (omega (arith, count, some)) (level_at a all r.place r.track r.track_is end.shift own.0)
          ]
    ]

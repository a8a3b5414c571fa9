-- By how much the section numbers of a publication rise.
use Rattle.publish_law.specs.declared.plan.Course.TheVariants as course
use Rattle.std.proofs.Common.{◌≡◌, ℕ, zero, suc, ◌+◌, ◌-◌, ◌<◌, ◌≤◌, min, max, Bool, true, List, [], ◌∷◌, length, get_or}
use Rattle.std.proofs.{Common.{◌⊎◌, Option, Some, None, refl, sym, ap, ◌∙◌, inl, inr, arith, length-drop}, Common.ltb}
use Rattle.std.proofs.lemmas.{Bool.{cases_Bool, ltb-false, ltb-true}, List.get_or-drop, List.Sorted.IsNonDecreasingBy-drop}
use Rattle.std.proofs.lemmas.{List.Sums.AllPass-from_list_all}
use Rattle.std.proofs.lemmas.{Option.{get_or_from_slice_get, same_Some, slice_get_within, slice_get-get_or}}
use Rattle.std.specs.{Prelude.{fold, option_map}, List.{list_all, slice_get}}
use Rattle.hls_writer.specs.declared.items.MediaItem.{MediaItem}
use Rattle.publish_law.specs.declared.{joint.Shift.Shift, track.Track.Track}
use Rattle.publish_law.specs.{Joints.{before_last}, Lists.{fresh_items, saturated}}
use Rattle.publish_law.specs.Plans.{fresh_of, greater, greatest_last, greatest_shift, is_clear, last_section, least_of, least_of_all}
use Rattle.publish_law.specs.Plans.{lesser}
use Rattle.publish_law.specs.Plans.{share_from, share_of, share_with}
use Rattle.laws_of_publishing.specs.Laws.{IsTrack}
use Rattle.laws_of_publishing.proofs.{Joined.IsFound, Tails.at_place}

-- ---- the least and the greatest of all

-- what is there, is bounded by what is there of both
abbrev IsBound : {X : Type 0} → (X → X → Type 0) → (bound value : Option X) → Type 0
IsBound {X} R bound value = (x : X) → value ≡ Some x → (m : X) × ((bound ≡ Some m) × R m x)

module _ {X : Type 0} (R : X → X → Type 0) (same : (x : X) → R x x) (join : Option X → Option X → Option X)
    (parts : (bound a b : Option X) → IsBound R bound (join a b) → IsBound R bound a × IsBound R bound b) (value : Track → Option X) where
  first_bound : (first : Option X) (tracks : List Track) → IsBound R (fold (λ (x : Option X) (t : Track). join x
      (value t)) first tracks) first
  first_bound first [] = λ x is. (x, (is, same x))
  first_bound first (track ∷ tracks) = (parts _ first (value track) (first_bound (join first (value track)) tracks)).0

  pub each_bound : (first : Option X) (tracks : List Track) (k : ℕ) (track : Track) → slice_get tracks k ≡ Some track
      → IsBound R (fold (λ (x : Option X) (t : Track). join x (value t)) first tracks) (value track)
  each_bound first [] k track is = absurd (cc)
  each_bound first (t ∷ ts) zero track is =
      rw (← same_Some t track is) ((parts _ first (value t) (first_bound (join first (value t)) ts)).1)
  each_bound first (t ∷ ts) (suc k) track is = each_bound (join first (value t)) ts k track is

lesser_parts : (bound a b : Option ℕ) → IsBound ◌≤◌ bound (lesser a b) → IsBound ◌≤◌ bound a × IsBound ◌≤◌ bound b
lesser_parts bound None b all = (λ x is. absurd (cc), all)
lesser_parts bound (Some a) None all = (all, λ x is. absurd (cc))
lesser_parts bound (Some a) (Some b) all =
    let least = all (min a b) refl in (
      λ x is. let same : a ≡ x = cc in (least.0, (least.1.0, omega (arith, least.1.1))),
      λ x is. let same : b ≡ x = cc in (least.0, (least.1.0, omega (arith, least.1.1))),
    )

-- one number rises by no more than another
abbrev pub RisesNoMore : (most shift : Shift) → Type 0
RisesNoMore most shift = shift.up + most.down ≤ most.up + shift.down

greater_parts : (bound a b : Option Shift) → IsBound RisesNoMore bound (greater a b)
    → IsBound RisesNoMore bound a × IsBound RisesNoMore bound b
greater_parts bound None b all = (λ x is. absurd (cc), all)
greater_parts bound (Some a) None all = (all, λ x is. absurd (cc))
greater_parts bound (Some a) (Some b) all = elim (cases_Bool (ltb (a.up + b.down) (b.up + a.down))) [
  | inl above ↦
      let less = ltb-true (a.up + b.down) (b.up + a.down) above in
      let most = (rw above at all) b refl in (
        λ x is. let same : a ≡ x = cc in rw (← same) (most.0, (most.1.0, omega (arith, most.1.1))),
        λ x is. let same : b ≡ x = cc in rw (← same) most,
      )
  | inr below ↦
      let no_less = ltb-false (a.up + b.down) (b.up + a.down) below in
      let most = (rw below at all) a refl in (
        λ x is. let same : a ≡ x = cc in rw (← same) most,
        λ x is. let same : b ≡ x = cc in rw (← same) (most.0, (most.1.0, omega (arith, most.1.1))),
      )
]

pub least_bounds : (all : Bool) (tracks : List Track) (k : ℕ) (track : Track) → slice_get tracks k ≡ Some track
    → IsBound ◌≤◌ (least_of_all all tracks) (least_of all track)
least_bounds all tracks k track is =
    each_bound ◌≤◌ (λ x. omega arith) lesser lesser_parts (least_of all) None tracks k track is

pub greatest_bounds : (tracks : List Track) (k : ℕ) (track : Track) → slice_get tracks k ≡ Some track
    → IsBound RisesNoMore (greatest_shift tracks) track.joint.found
greatest_bounds tracks k track is =
    each_bound RisesNoMore (λ x. omega arith) greater greater_parts (λ (t : Track). t.joint.found) None tracks k track is

first_stays : (first : ℕ) (tracks : List Track) → first ≤ fold (λ (last : ℕ) (t : Track). max last (last_section t)) first tracks
first_stays first [] = omega arith
first_stays first (track ∷ tracks) = omega (arith, first_stays (max first (last_section track)) tracks)

last_below : (first : ℕ) (tracks : List Track) (k : ℕ) (track : Track) → slice_get tracks k ≡ Some track
    → last_section track ≤ fold (λ (last : ℕ) (t : Track). max last (last_section t)) first tracks
last_below first [] k track is = absurd (cc)
last_below first (t ∷ ts) zero track is =
    let same = same_Some t track is in rw (← same) (omega (arith, first_stays (max first (last_section t)) ts))
last_below first (t ∷ ts) (suc k) track is = last_below (max first (last_section t)) ts k track is

pub last_is_below : (tracks : List Track) (k : ℕ) (track : Track) → slice_get tracks k ≡ Some track
    → last_section track ≤ greatest_last tracks
last_is_below tracks k track is = last_below 0 tracks k track is

-- ---- one track

-- sections step above all that are served
pub record IsStep (tracks : List Track) (shift : Shift) (item : MediaItem) : Type 0 where
  pub up : shift.up ≡ saturated (greatest_last tracks + 1)
  pub down : shift.down ≤ item.section

-- they are joined: where the track is found they rise by its own number at least, and otherwise they come above its served ones
pub record IsJoin (track : Track) (shift : Shift) (item : MediaItem) : Type 0 where
  pub down : shift.down ≤ item.section + shift.up
  pub most : (found : Shift) → track.joint.found ≡ Some found → RisesNoMore shift found
  pub clear : track.joint.found ≡ None → last_section track + shift.down < item.section + shift.up

pub before_is : (n : ℕ) (items : List MediaItem) (item : MediaItem) → before_last n items ≡ Some item
    → slice_get items (length items - n - 1) ≡ Some item
before_is n items item is = elim (cases_Bool (ltb n (length items))) [
  | inl less ↦ rw less at is
  | inr all ↦ let never : None ≡ Some item = rw all at is in absurd (cc)
]

module _ (track : Track) (is : IsTrack track) (fresh k : ℕ) (item : MediaItem) (few : fresh ≤ length track.new.items)
    (here : slice_get (fresh_items track fresh) k ≡ Some item) where
  within : k < length (fresh_items track fresh)
  within = slice_get_within (fresh_items track fresh) k item here

  here_is : get_or (fresh_items track fresh) k item ≡ item
  here_is = get_or_from_slice_get (fresh_items track fresh) k item item here

  first_is_least : (get_or (fresh_items track fresh) 0 item).section ≤ item.section
  first_is_least =
      let order = IsNonDecreasingBy-drop (λ (x : MediaItem). x.section) (length track.new.items - fresh) track.new.items is.new in
      let less = order 0 k item (omega arith) within in rw here_is at less

  first_there : option_map (λ (x : MediaItem). x.section) (slice_get (fresh_items track fresh) 0)
      ≡ Some (get_or (fresh_items track fresh) 0 item).section
  first_there =
      let some = within in
      ap (λ (o : Option MediaItem). option_map (λ (x : MediaItem). x.section) o)
      (slice_get-get_or (fresh_items track fresh) 0 item (omega arith))

  pub behind : (shift : Shift) → IsFound track.served.items track.new.items fresh shift → shift.down ≤ item.section
  behind shift found =
      let n = length track.new.items in
      let some = within in
      let left = length-drop (n - fresh) track.new.items in
      let there = before_is fresh track.new.items found.item found.item_is in
      let first = get_or_from_slice_get track.new.items (n - fresh - 1) found.item item there in
      let second = sym (get_or-drop (n - fresh) track.new.items k item) ∙ here_is in
      let order = is.new (n - fresh - 1) (n - fresh + k) item (omega arith) (omega arith) in
      let less = rw (first, second) at order in omega (arith, found.down, less)

module _ (tracks : List Track) (place : ℕ) (track : Track) (track_is : slice_get tracks place ≡ Some track) (is : IsTrack track)
    (back : Bool) (few : fresh_of back track ≤ length track.new.items)
    (found_is : (shift : Shift) → track.joint.found ≡ Some shift
    → (fresh_of back track ≡ 0) ⊎ IsFound track.served.items track.new.items (fresh_of back track) shift)
    (k : ℕ) (item : MediaItem) (here : slice_get (fresh_items track (fresh_of back track)) k ≡ Some item) where
  some_fresh : fresh_of back track ≡ 0 → ⊥
  some_fresh none =
      let some = within track is (fresh_of back track) k item few here in
      let left = length-drop (length track.new.items - fresh_of back track) track.new.items in omega arith

  least_is : (e : ℕ) → least_of_all back tracks ≡ Some e → e ≤ item.section
  least_is e least =
      let first = first_there track is (fresh_of back track) k item few here in
      let less = first_is_least track is (fresh_of back track) k item few here in
      let bound = least_bounds back tracks place track track_is _ first in
      let same : bound.0 ≡ e = cc (bound.1.0, least) in omega (arith, bound.1.1, same, less)

  join_by : (e : ℕ) (most : Shift) (found : Option Shift) → least_of_all back tracks ≡ Some e → greatest_shift tracks ≡ Some most
      → list_all (is_clear e most) tracks ≡ true → track.joint.found ≡ found → IsJoin track most item
  join_by e most None least greatest clear none =
      let each = AllPass-from_list_all (is_clear e most) tracks clear in
      let own = at_place (λ (t : Track). is_clear e most t ≡ true) tracks place track each track_is in
      let above = ltb-true (last_section track + most.down) (e + most.up) (rw none at own) in
      let less = least_is e least in record { down = omega arith; most = λ found is. absurd (cc); clear = λ _. omega arith }
  join_by e most (Some shift) least greatest clear found = elim (found_is shift found) [
    | inl none ↦ absurd (some_fresh none)
    | inr there ↦
        let bound = greatest_bounds tracks place track track_is shift found in
        let same : bound.0 ≡ most = cc (bound.1.0, greatest) in
        let no_more = rw same at bound.1.1 in
        let less = behind track is (fresh_of back track) k item few here shift there in
        record {
          down = omega (arith, no_more, less);
          most = λ own is. let one : shift ≡ own = cc in rw (← one) no_more;
          clear = λ none. absurd (cc);
        }
  ]

  with_by : (e : ℕ) (most : Option Shift) → least_of_all back tracks ≡ Some e → greatest_shift tracks ≡ most
      → IsStep tracks (share_with e most tracks).shift item
      ⊎ (IsJoin track (share_with e most tracks).shift item × ((share_with e most tracks).course ≡ course.Joined))
  with_by e None least greatest = inl (record { up = refl; down = least_is e least })
  with_by e (Some most) least greatest = elim (cases_Bool (list_all (is_clear e most) tracks)) [
    | inl clear ↦ rw clear (inr (join_by e most track.joint.found least greatest clear refl, refl))
    | inr other ↦ rw other (inl (record { up = refl; down = least_is e least }))
  ]

  from_by : (least : Option ℕ) → least_of_all back tracks ≡ least → IsStep tracks (share_from least tracks).shift item
      ⊎ (IsJoin track (share_from least tracks).shift item × ((share_from least tracks).course ≡ course.Joined))
  from_by None none =
      let first = first_there track is (fresh_of back track) k item few here in
      let bound = least_bounds back tracks place track track_is _ first in absurd (cc (bound.1.0, none))
  from_by (Some e) least = with_by e (greatest_shift tracks) least refl

  pub risen : IsStep tracks (share_of back tracks).shift item
      ⊎ (IsJoin track (share_of back tracks).shift item × ((share_of back tracks).course ≡ course.Joined))
  unfolding share_of
  risen = from_by (least_of_all back tracks) refl

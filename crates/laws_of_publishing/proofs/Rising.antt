-- The sections of what is appended.
use Rattle.publish_law.specs.declared.plan.Course.TheVariants as course
use Rattle.std.proofs.Common.{get_or, ◌≡◌, ℕ, ◌+◌, ◌-◌, ◌^◌, ◌<◌, ◌≤◌, min, Bool, true, false, length, ◌⊎◌, Option, Some, None, refl}
use Rattle.std.proofs.Common.{sym, ap, ◌∙◌, inl, inr}
use Rattle.std.proofs.{Common.{arith, length-drop, unwrap_or}, lemmas.List.Elements.All-drop}
use Rattle.std.proofs.lemmas.Option.{same_Some, slice_get_within, slice_get-get_or, slice_get-map}
use Rattle.std.specs.{Prelude.option_map, List.{slice_get}}
use Rattle.hls_writer.specs.declared.items.MediaItem.{MediaItem}
use Rattle.publish_law.specs.declared.{joint.Shift.Shift, plan.Course.Course, track.Track.Track}
use Rattle.publish_law.specs.{Joints.{before_last, last_of, same_item}, Lists.{fresh_items, shifted}}
use Rattle.publish_law.specs.Plans.{course_with, fresh_of, last_section, share_of}
use Rattle.laws_of_publishing.specs.Laws.{Accepted, NoSilentGap, Replaced, RisesBy, SectionsAfterACut, SectionsAreEven, StepsAreAbove}
use Rattle.laws_of_publishing.specs.Laws.{appended_in}
use Rattle.laws_of_publishing.proofs.{Comes.{Comes, cut_comes, on_comes, track_is}, Going.{appended_is, fresh_in_is}}
use Rattle.laws_of_publishing.proofs.{Planned.{IsOn, planned}, Risen.{IsJoin, IsStep, before_is, behind, last_is_below, risen}}
use Rattle.laws_of_publishing.proofs.{Tails.at_place}

some_of : {X Y : Type 0} (f : X → Y) (o : Option X) (y : Y) → option_map f o ≡ Some y → (x : X) × (o ≡ Some x)
some_of f None y is = absurd (cc)
some_of f (Some x) y is = (x, refl)

module _ (a : Accepted) (r : Replaced a) (fresh : ℕ) (shift : Shift) (ended : Bool) (c : Comes a r fresh shift ended) where
  -- an appended segment is a fresh one in a section of its own
  pub raised : (k : ℕ) (new old : MediaItem) → slice_get (appended_in r) k ≡ Some new → slice_get (fresh_items r.track fresh) k ≡ Some old
      → (new.section ≡ min (old.section + shift.up - shift.down) (2 ^ 64 - 1)) × (new.section < 2 ^ 63)
  raised k new old new_is old_is =
      let there = slice_get-map (shifted shift) (fresh_items r.track fresh) k in
      let same : Some (shifted shift old) ≡ Some new = sym (ap (λ (o : Option MediaItem). option_map (shifted shift) o) old_is) ∙ sym there
      ∙ ap (λ items. slice_get items k) (sym (appended_is a r fresh shift ended c)) ∙ new_is in
      let is = ap (λ (x : MediaItem). x.section) (same_Some _ _ same) in
      let small = at_place (λ (x : MediaItem). x.section < 2 ^ 63) (appended_in r) k new (All-drop (λ
      (x : MediaItem). x.section < 2 ^ 63) (length r.list.items - r.change.appended) r.list.items r.small.sections) new_is in
      (sym is, small)

  rises : ((k : ℕ) (old : MediaItem) → slice_get (fresh_items r.track fresh) k ≡ Some old → shift.down ≤ old.section + shift.up)
      → RisesBy shift r
  rises down k new old new_is old_is =
      let there = ap (λ items. slice_get items k) (sym (fresh_in_is a r fresh shift ended c)) ∙ old_is in
      let is = raised k new old new_is there in
      let less = down k old there in omega (arith, is.0, is.1, less)

  -- there is one at each place that has an appended one
  pub old_at : (k : ℕ) (new : MediaItem) → slice_get (appended_in r) k ≡ Some new
      → (old : MediaItem) × (slice_get (fresh_items r.track fresh) k ≡ Some old)
  old_at k new is =
      let fresh_are = fresh_items r.track fresh in
      let there = sym (slice_get-map (shifted shift) fresh_are k)
      ∙ ap (λ items. slice_get items k) (sym (appended_is a r fresh shift ended c)) ∙ is in
      some_of (shifted shift) (slice_get fresh_are k) new there

  pub no_more : fresh ≡ 0 → (k : ℕ) (new : MediaItem) → slice_get (appended_in r) k ≡ Some new → ⊥
  no_more none k new is =
      let old = old_at k new is in
      let within = slice_get_within (fresh_items r.track fresh) k old.0 old.1 in
      let left = length-drop (length r.track.new.items - fresh) r.track.new.items in omega arith

  -- where the track is found, its new list has the served list's last segment directly before what comes
  found_before : (found : Shift) → r.track.joint.found ≡ Some found → (last first : MediaItem) → last_of r.track.served.items ≡ Some last
      → slice_get (appended_in r) 0 ≡ Some first
      → (item : MediaItem) × (before_last r.change.appended r.track.new.items ≡ Some item) × (same_item item last ≡ true)
  found_before found found_is last first last_is first_is = elim (c.fresh_is.found found found_is) [
    | inl none ↦ absurd (no_more none 0 first first_is)
    | inr there ↦
        let same : there.last ≡ last = cc (there.last_is, last_is) in
        (there.item, rw c.made.appended there.item_is, rw same at there.same)
  ]

  pub found_rises : (found : Shift) → r.track.joint.found ≡ Some found → (k : ℕ) (old : MediaItem)
      → slice_get (fresh_items r.track fresh) k ≡ Some old → found.down ≤ old.section
  found_rises found found_is k old is = elim (c.fresh_is.found found found_is) [
    | inl none ↦
        let within = slice_get_within (fresh_items r.track fresh) k old is in
        let left = length-drop (length r.track.new.items - fresh) r.track.new.items in absurd (omega arith)
    | inr there ↦ behind r.track (track_is a r) fresh k old c.fresh_is.few is found there
  ]

pub last_section_is : (track : Track) (last : MediaItem) → last_of track.served.items ≡ Some last → last_section track ≡ last.section
last_section_is track last is =
    let n : length track.served.items - 0 - 1 ≡ length track.served.items - 1 = omega arith in
    ap (λ (o : Option MediaItem). unwrap_or (option_map (λ (x : MediaItem). x.section) o) 0) (rw n at
    (before_is 0 track.served.items last is))

module _ (a : Accepted) (r : Replaced a) (on : IsOn a.options a.tracks (planned a).plan) where
  pub comes : Comes a r (fresh_of on.back r.track) (share_of on.back a.tracks).shift on.ending
  comes = on_comes a r (planned a).plan on (planned a).changes

  pub on_risen : (k : ℕ) (old : MediaItem) → slice_get (fresh_items r.track (fresh_of on.back r.track)) k ≡ Some old
      → IsStep a.tracks (share_of on.back a.tracks).shift old
      ⊎ (IsJoin r.track (share_of on.back a.tracks).shift old × ((share_of on.back a.tracks).course ≡ course.Joined))
  on_risen k old is =
      let f = comes.fresh_is in risen a.tracks r.place r.track r.track_is (track_is a r) on.back f.few f.found k old is

  pub on_rises : RisesBy (share_of on.back a.tracks).shift r
  on_rises = rises a r (fresh_of on.back r.track) (share_of on.back a.tracks).shift on.ending comes (λ k old is. elim (on_risen k old is) [
    | inl step ↦ omega (arith, step.down)
    | inr join ↦ join.0.down
  ])

  -- where the track isn't found, or behind a border, sections come above the served ones
  pub on_above : (k : ℕ) (new : MediaItem) → slice_get (appended_in r) k ≡ Some new → r.track.joint.found ≡ None
      → last_section r.track < new.section
  on_above k new is none =
      let old = old_at a r (fresh_of on.back r.track) (share_of on.back a.tracks).shift on.ending comes k new is in
      let raised_is = raised a r (fresh_of on.back r.track) (share_of on.back a.tracks).shift on.ending comes k new old.0 is old.1 in
      let below = last_is_below a.tracks r.place r.track r.track_is in
      elim (on_risen k old.0 old.1) [
        | inl step ↦ omega (arith, step.up, step.down, raised_is.0, raised_is.1, below)
        | inr join ↦ omega (arith, join.0.down, join.0.clear none, raised_is.0, raised_is.1)
      ]

  on_gap : (found : Option Shift) → r.track.joint.found ≡ found → (last first : MediaItem) → last_of r.track.served.items ≡ Some last
      → slice_get (appended_in r) 0 ≡ Some first → first.section ≡ last.section
      → (item : MediaItem) × (before_last r.change.appended r.track.new.items ≡ Some item) × (same_item item last ≡ true)
  on_gap None none last first last_is first_is same =
      let above = on_above 0 first first_is none in absurd (omega (arith, above, last_section_is r.track last last_is, same))
  on_gap (Some found) is last first last_is first_is same =
      found_before a r (fresh_of on.back r.track) (share_of on.back a.tracks).shift on.ending comes found is last first last_is first_is

  -- behind a border they come above those of all tracks
  step_above : (share_of on.back a.tracks).course ≡ course.Stepped → (place : ℕ) (other : Track) → slice_get a.tracks place ≡ Some other
      → (k : ℕ) (new : MediaItem) → slice_get (appended_in r) k ≡ Some new → last_section other < new.section
  step_above stepped place other other_is k new is =
      let old = old_at a r (fresh_of on.back r.track) (share_of on.back a.tracks).shift on.ending comes k new is in
      let raised_is = raised a r (fresh_of on.back r.track) (share_of on.back a.tracks).shift on.ending comes k new old.0 is old.1 in
      let below = last_is_below a.tracks place other other_is in
      elim (on_risen k old.0 old.1) [
        | inl step ↦ omega (arith, step.up, step.down, raised_is.0, raised_is.1, below)
        | inr join ↦ let never : course.Joined ≡ course.Stepped = sym join.1 ∙ stepped in absurd (cc)
      ]

stepped_is : (ending : Bool) (c : Course) → course_with ending c ≡ course.Stepped → c ≡ course.Stepped
stepped_is true c is = absurd (cc)
stepped_is false c is = is

pub sections_are_even : SectionsAreEven
sections_are_even a going = elim (planned a).kind [
  | inl on ↦ ((share_of on.back a.tracks).shift, λ r. on_rises a r on)
  | inr cut ↦ absurd (cc (cut.some_ended, going))
]

pub sections_after_a_cut : SectionsAfterACut
sections_after_a_cut a r shift some found = elim (planned a).kind [
  | inl on ↦ absurd (cc (on.are_open, some))
  | inr cut ↦
      let end = cut_comes a r (planned a).plan cut (planned a).changes in
      elim end.own [
        | inl none ↦ λ k new old new_is old_is. absurd (no_more a r end.fresh end.shift true end.comes none k new new_is)
        | inr own ↦
            let same : end.shift ≡ shift = same_Some _ _ (sym own.0 ∙ found) in
            rw (← same) (rises a r end.fresh end.shift true end.comes (λ k old is.
            let less = found_rises a r end.fresh end.shift true end.comes end.shift own.0 k old is in omega (arith, less)))
      ]
]

pub no_silent_gap : NoSilentGap
no_silent_gap a r last first last_is first_is same = elim (planned a).kind [
  | inl on ↦ on_gap a r on r.track.joint.found refl last first last_is first_is same
  | inr cut ↦
      let end = cut_comes a r (planned a).plan cut (planned a).changes in
      elim end.own [
        | inl none ↦ absurd (no_more a r end.fresh end.shift true end.comes none 0 first first_is)
        | inr own ↦ found_before a r end.fresh end.shift true end.comes end.shift own.0 last first last_is first_is
      ]
]

pub steps_are_above : StepsAreAbove
steps_are_above a r place other stepped other_is k d within =
    let is = slice_get-get_or (appended_in r) k d within in
    let c = sym (planned a).course ∙ stepped in
    elim (planned a).kind [
      | inl on ↦
          let course_is = stepped_is on.ending (share_of on.back a.tracks).course (rw on.plan_is at c) in
          step_above a r on course_is place other other_is k (get_or (appended_in r) k d) is
      | inr cut ↦ let never : course.Ended ≡ course.Stepped = rw cut.plan_is at c in absurd (cc)
    ]

-- A published list is readable where the served and the new one are.
use Rattle.std.proofs.Common.{◌≡◌, ℕ, zero, suc, ◌+◌, ◌-◌, ◌^◌, ◌<◌, ◌≤◌, Bool, true, false, List, [], ◌∷◌, ◌++◌, length, map, drop}
use Rattle.std.proofs.Common.{get_or, ◌⊎◌, Option}
use Rattle.std.proofs.{Common.{Some, None, option_map, refl, sym, ap, ap₂, ◌∙◌, subst, inl, inr, arith, length-drop}, Math.Seq.drop-cons}
use Rattle.std.proofs.{lemmas.Bool.{cases_Bool, lt-ltb}, lemmas.Bool.Decides.nat_tests}
use Rattle.std.proofs.{lemmas.List.Elements.{All-append, All-drop, All-map}}
use Rattle.std.proofs.lemmas.{List.get_or-drop}
use Rattle.std.proofs.lemmas.{Option.{get_or_from_slice_get, same_Some, slice_get_within, slice_get-get_or, slice_get-map}}
use Rattle.std.specs.{List.{All, slice_get}, Option.option_eq}
use Rattle.url_parts.specs.declared.{address.Part.Part, range.Range.Range}
use Rattle.bridge_io.proofs.Texts.{same_bytes}
use Rattle.hls_writer.specs.{Items.item_of, declared.items.{MediaHead.MediaHead, MediaItem.MediaItem}}
use Rattle.reload_law.specs.Rules.{same_part, same_range}
use Rattle.publish_law.specs.declared.{joint.Shift.Shift, track.Track.Track}
use Rattle.publish_law.specs.{Joints.{last_of, same_item}, Lists.{first_section, fresh_items, list_with, shifted}}
use Rattle.publish_law.specs.Plans.{first_place, fresh_of, has_other_digits, share_of}
use Rattle.laws_of_playlists.specs.ReadMedia.{AreInOrder, GoOn, IsNext}
use Rattle.laws_of_publishing.specs.Laws.{Accepted, IsSmall, Replaced, RisesBy, appended_in}
use Rattle.laws_of_publishing.proofs.Comes.{Comes, ComesToEnd, cut_comes, on_comes}
use Rattle.laws_of_publishing.proofs.{Going.{appended_is, before_some, fresh_in_is, lists_go_on}, Joined.IsFound}
use Rattle.laws_of_publishing.proofs.{Planned.{IsCut, IsOn, planned}, Risen.{RisesNoMore, before_is, last_is_below}}
use Rattle.laws_of_publishing.proofs.Rising.{last_section_is, no_more, on_above, on_risen, on_rises, raised, sections_after_a_cut}
use Rattle.laws_of_published_texts.proofs.{Maps.IsGood, Sound.IsSound}

-- ---- lists in order

on_later : (former : MediaItem) (items : List MediaItem) → GoOn (item_of former) (map item_of items) → AreInOrder (map item_of items)
on_later former [] on = tt
on_later former (item ∷ items) on = on.1

order_drop : (n : ℕ) (items : List MediaItem) → AreInOrder (map item_of items) → AreInOrder (map item_of (drop n items))
order_drop zero items order = order
order_drop (suc n) [] order = tt
order_drop (suc n) (item ∷ items) order = order_drop n items (on_later item items order)

abbrev last_item : MediaItem → List MediaItem → MediaItem
last_item former [] = former
last_item former (item ∷ items) = last_item item items

order_append : (former : MediaItem) (items more : List MediaItem) → GoOn (item_of former) (map item_of items)
    → GoOn (item_of (last_item former items)) (map item_of more) → GoOn (item_of former) (map item_of (items ++ more))
order_append former [] more on then = then
order_append former (item ∷ items) more on then = (on.0, order_append item items more on.1 then)

last_there : (former : MediaItem) (items : List MediaItem) → slice_get (former ∷ items) (length items) ≡ Some (last_item former items)
last_there former [] = refl
last_there former (item ∷ items) = last_there item items

-- ---- the same maps

same_ranges : (a b : Option Range) → option_eq same_range a b ≡ true → a ≡ b
same_ranges None None same = refl
same_ranges None (Some b) same = absurd (cc)
same_ranges (Some a) None same = absurd (cc)
same_ranges (Some a) (Some b) same =
    let first : a.first ≡ b.first = grind (arith, nat_tests) in
    let count : a.count ≡ b.count = grind (arith, nat_tests) in
    ap₂ (λ (x y : ℕ). Some (record { first = x; count = y })) first count

same_parts : (a b : Part) → same_part a b ≡ true → a ≡ b
same_parts a b same =
    let address = same_bytes a.address b.address (grind (arith, nat_tests)) in
    let range = same_ranges a.range b.range (grind (arith, nat_tests)) in
    ap₂ (λ (x : List ℕ) (r : Option Range). record { address = x; range = r }) address range

same_map : (a b : MediaItem) → same_item a b ≡ true → a.map ≡ b.map
same_map a b same = same_parts a.map b.map (grind (arith, nat_tests))

-- ---- what is appended

abbrev IsExact : Shift → MediaItem → Type 0
IsExact shift item = (shifted shift item).section + shift.down ≡ item.section + shift.up

shifted_on : (shift : Shift) (former : MediaItem) (items : List MediaItem) → GoOn (item_of former) (map item_of items)
    → IsExact shift former → All (IsExact shift) items → GoOn (item_of (shifted shift former)) (map item_of (map (shifted shift) items))
shifted_on shift former [] on exact all = tt
shifted_on shift former (item ∷ items) on exact all =
    let own = all 0 item (omega arith) in (
      record {
        section = omega (arith, on.0.section, exact, own);
        map = λ same. on.0.map (omega (arith, same, exact, own));
      },
      shifted_on shift item items on.1 own (λ k d within. all (suc k) d (omega arith)),
    )

module _ (a : Accepted) (r : Replaced a) (fresh : ℕ) (shift : Shift) (ended : Bool) (c : Comes a r fresh shift ended) where
  abbrev served : List MediaItem
  served = r.track.served.items

  abbrev new : List MediaItem
  new = r.track.new.items

  abbrev news : List MediaItem
  news = fresh_items r.track fresh

  exact : RisesBy shift r → All (IsExact shift) news
  exact rises k d within =
      let there = slice_get-get_or news k d within in
      let old = ap (λ items. slice_get items k) (fresh_in_is a r fresh shift ended c) ∙ there in
      let moved = ap (λ items. slice_get items k) (appended_is a r fresh shift ended c) ∙ slice_get-map (shifted shift) news k
      ∙ ap (λ (o : Option MediaItem). option_map (shifted shift) o) there in
      rises k (shifted shift (get_or news k d)) (get_or news k d) moved old

  -- the new list from the segment that has the fresh ones after it
  found_on : (found : Shift) (there : IsFound served new fresh found) → AreInOrder (map item_of new)
      → GoOn (item_of there.item) (map item_of news)
  found_on found there order =
      let n = length new - fresh - 1 in
      let at = before_is fresh new there.item there.item_is in
      let less = before_some fresh new there.item there.item_is in
      let cut = drop-cons new n there.item (omega (arith, less)) in
      let item = get_or_from_slice_get new n there.item there.item at in
      let next : suc n ≡ length new - fresh = omega (arith, less) in
      let on = subst (λ items. AreInOrder (map item_of items)) cut (order_drop n new order) in
      let first = subst (λ (x : MediaItem). GoOn (item_of x) (map item_of (drop (suc n) new))) item on in
      subst (λ (k : ℕ). GoOn (item_of there.item) (map item_of (drop k new))) next first

  -- what comes is above the served list's last segment, or rises by the track's own number at least
  abbrev pub Above : MediaItem → MediaItem → Option Shift → Type 0
  Above last item None = last.section < (shifted shift item).section
  Above last item (Some found) = (last.section < (shifted shift item).section) ⊎ RisesNoMore shift found

  module _ (last : MediaItem) (last_is : last_of served ≡ Some last) (order : AreInOrder (map item_of new)) (rises : RisesBy shift r)
      (above : (item : MediaItem) → slice_get news 0 ≡ Some item → (found : Option Shift) → r.track.joint.found ≡ found
      → Above last item found)
      (item : MediaItem) (items : List MediaItem) (are : news ≡ item ∷ items) where
    first_exact : IsExact shift item
    first_exact = subst (All (IsExact shift)) are (exact rises) 0 item (omega arith)

    abbrev Next : Type 0
    Next = IsNext (item_of last) (item_of (shifted shift item))

    far : last.section < (shifted shift item).section → Next
    far less = record { section = omega (arith, less); map = λ same. absurd (omega (arith, less, same)) }

    near : (found : Shift) → IsFound served new fresh found → RisesNoMore shift found → Next
    near found there most =
        let on = subst (λ items. GoOn (item_of there.item) (map item_of items)) are (found_on found there order) in
        let same_last : there.last ≡ last = cc (there.last_is, last_is) in
        let up : found.up ≡ last.section = there.up ∙ ap (λ (i : MediaItem). i.section) same_last in
        let maps = on.0.map in
        let from = on.0.section in record {
          section = omega (arith, most, up, there.down, from, first_exact);
          map = λ same. maps (omega (arith, same, most, up, there.down, from, first_exact)) ∙ same_map there.item there.last there.same
              ∙ ap (λ (i : MediaItem). i.map) same_last;
        }

    some : 1 ≤ fresh
    some = let left = length-drop (length new - fresh) new in
        let many = ap (λ (l : List MediaItem). length l) are in omega (arith, left, many)

    next_by : (found : Option Shift) → r.track.joint.found ≡ found → Above last item found → Next
    next_by None is less = far less
    next_by (Some found) is above = elim above [
      | inl less ↦ far less
      | inr most ↦ elim (c.fresh_is.found found is) [ inl none ↦ absurd (omega (arith, some, none)) | inr there ↦ near found there most ]
    ]

    pub first_next : GoOn (item_of last) (map item_of (map (shifted shift) (item ∷ items)))
    first_next =
        let there : slice_get news 0 ≡ Some item = ap (λ l. slice_get l 0) are in
        let order_news = subst (λ l. AreInOrder (map item_of l)) are (order_drop (length new - fresh) new order) in
        let each = subst (All (IsExact shift)) are (exact rises) in (
          next_by r.track.joint.found refl (above item there r.track.joint.found refl),
          shifted_on shift item items order_news first_exact (λ k d within. each (suc k) d (omega arith)),
        )

  comes_on : (last : MediaItem) → last_of served ≡ Some last → AreInOrder (map item_of new) → RisesBy shift r
      → ((item : MediaItem) → slice_get news 0 ≡ Some item → (found : Option Shift) → r.track.joint.found ≡ found → Above last item found)
      → (items : List MediaItem) → news ≡ items → GoOn (item_of last) (map item_of (map (shifted shift) items))
  comes_on last last_is order rises above [] are = tt
  comes_on last last_is order rises above (item ∷ items) are = first_next last last_is order rises above item items are

  last_is_kept : (first : MediaItem) (kept : List MediaItem) → drop r.change.removed served ≡ first ∷ kept
      → last_of served ≡ Some (last_item first kept)
  last_is_kept first kept are =
      let n = r.change.removed in
      let left = length-drop n served in
      let many = ap (λ (l : List MediaItem). length l) are in
      let place : n + length kept ≡ length served - 0 - 1 = omega (arith, left, many) in
      let own = ap (λ l. get_or l (length kept) first) (sym are) ∙ get_or-drop n served (length kept) first in
      let is = get_or_from_slice_get (first ∷ kept) (length kept) (last_item first kept) first (last_there first kept) in
      let there = slice_get-get_or served (n + length kept) first (omega (arith, left, many)) in
      rw (lt-ltb 0 (length served) (omega (arith, left, many)), ← place) (there ∙ ap Some (sym own ∙ is))

  moved_good : (digits : ℕ) (item : MediaItem) → IsGood digits item → IsGood digits (shifted shift item)
  moved_good digits item is = record { part = is.part; map = is.map; short = is.short }

  first_fits : (otherwise : ℕ) (items : List MediaItem) → otherwise < 10 ^ 64 → All (λ (item : MediaItem). item.section < 2 ^ 63) items
      → first_section otherwise items < 10 ^ 64
  first_fits otherwise [] fits small = fits
  first_fits otherwise (item ∷ items) fits small = let less = small 0 item (omega arith) in omega (arith, less)

  module _ (was : IsSound r.track.served) (is : IsSound r.track.new) (digits : r.track.new.head.digits ≡ r.track.served.head.digits)
      (rises : RisesBy shift r)
      (above : (last : MediaItem) → last_of served ≡ Some last → (item : MediaItem) → slice_get news 0 ≡ Some item
      → (found : Option Shift) → r.track.joint.found ≡ found → Above last item found) where
    abbrev head : MediaHead
    head = r.track.served.head

    abbrev moved : List MediaItem
    moved = map (shifted shift) news

    good : All (IsGood head.digits) (drop r.change.removed served ++ moved)
    good =
        let own = subst (λ d. All (IsGood d) new) digits is.good in
        let come = All-drop (IsGood head.digits) (length new - fresh) new own in
        All-append (IsGood head.digits) (drop r.change.removed served) moved
        (All-drop (IsGood head.digits) r.change.removed served was.good)
        (All-map (IsGood head.digits) (shifted shift) news (λ k d within. moved_good head.digits (get_or news k d) (come k d within)))

    order : (kept : List MediaItem) → drop r.change.removed served ≡ kept → AreInOrder (map item_of (kept ++ moved))
        × (first_section head.first_section (kept ++ moved) ≡ first_section 0 (kept ++ moved))
    order [] are =
        let left = length-drop r.change.removed served in
        let many = ap (λ (l : List MediaItem). length l) are in
        let stays = (lists_go_on a r).last_stays in absurd (omega (arith, left, many, stays))
    order (first ∷ kept) are =
        let last_is = last_is_kept first kept are in
        let on = subst (λ items. AreInOrder (map item_of items)) are (order_drop r.change.removed served was.order) in (
          order_append first kept moved on (comes_on (last_item first kept) last_is is.order rises (above
              (last_item first kept) last_is) news refl),
          refl,
        )

    made_sound : IsSmall (list_with head r.change.removed ended (drop r.change.removed served ++ moved))
        → IsSound (list_with head r.change.removed ended (drop r.change.removed served ++ moved))
    made_sound small =
        let both = order (drop r.change.removed served) refl in
        let sequence = small.sequence in record {
          few = was.few;
          good = good;
          order = both.0;
          head = record {
            target = was.head.target;
            sequence = omega (arith, sequence);
            first_section =
                first_fits head.first_section (drop r.change.removed served ++ moved) was.head.first_section small.sections;
          };
          first = both.1;
        }

    pub sound : IsSound r.list
    sound = subst IsSound (sym c.made.list_is) (made_sound (subst IsSmall c.made.list_is r.small))

-- ---- the publication

none_place : (test : Track → Bool) (place : ℕ) (tracks : List Track) (k : ℕ) (track : Track) → first_place test place tracks ≡ None
    → slice_get tracks k ≡ Some track → test track ≡ false
none_place test place [] k track none is = absurd (cc)
none_place test place (t ∷ ts) zero track none is = elim (cases_Bool (test t)) [
  | inl passes ↦ let never : Some place ≡ None = rw passes at none in absurd (cc)
  | inr fails ↦ rw (same_Some t track is) at fails
]
none_place test place (t ∷ ts) (suc k) track none is = elim (cases_Bool (test t)) [
  | inl passes ↦ let never : Some place ≡ None = rw passes at none in absurd (cc)
  | inr fails ↦ none_place test (place + 1) ts k track (rw fails at none) is
]

module _ (a : Accepted) (r : Replaced a) where
  pub same_digits : r.track.new.head.digits ≡ r.track.served.head.digits
  same_digits =
      let same = none_place has_other_digits 0 a.tracks r.place r.track (planned a).digits r.track_is in grind (arith, nat_tests)

  module _ (on : IsOn a.options a.tracks (planned a).plan) where
    abbrev on_shift : Shift
    on_shift = (share_of on.back a.tracks).shift

    abbrev on_fresh : ℕ
    on_fresh = fresh_of on.back r.track

    abbrev on_come : Comes a r on_fresh on_shift on.ending
    on_come = on_comes a r (planned a).plan on (planned a).changes

    first_moved : (item : MediaItem) → slice_get (fresh_items r.track on_fresh) 0 ≡ Some item
        → slice_get (appended_in r) 0 ≡ Some (shifted on_shift item)
    first_moved item is =
        ap (λ items. slice_get items 0) (appended_is a r on_fresh on_shift on.ending on_come)
        ∙ slice_get-map (shifted on_shift) (fresh_items r.track on_fresh) 0
        ∙ ap (λ (o : Option MediaItem). option_map (shifted on_shift) o) is

    on_by : (last : MediaItem) → last_of r.track.served.items ≡ Some last → (item : MediaItem)
        → slice_get (fresh_items r.track on_fresh) 0 ≡ Some item → (found : Option Shift) → r.track.joint.found ≡ found
        → Above a r on_fresh on_shift on.ending on_come last item found
    on_by last last_is item is None none =
        let less = on_above a r on 0 (shifted on_shift item) (first_moved item is) none in
        omega (arith, less, last_section_is r.track last last_is)
    on_by last last_is item is (Some found) found_is =
        let rose = raised a r on_fresh on_shift on.ending on_come 0 (shifted on_shift item) item (first_moved item is) is in
        let below = last_is_below a.tracks r.place r.track r.track_is in
        elim (on_risen a r on 0 item is) [
          | inl step ↦ inl (omega (arith, step.up, step.down, rose.0, rose.1, below, last_section_is r.track last last_is))
          | inr join ↦ inr (join.0.most found found_is)
        ]

  module _ (cut : IsCut a.tracks (planned a).plan) where
    abbrev end : ComesToEnd a r
    end = cut_comes a r (planned a).plan cut (planned a).changes

    cut_by : (last : MediaItem) → last_of r.track.served.items ≡ Some last → (item : MediaItem)
        → slice_get (fresh_items r.track end.fresh) 0 ≡ Some item → (found : Option Shift) → r.track.joint.found ≡ found
        → Above a r end.fresh end.shift true end.comes last item found
    cut_by last last_is item is found found_is = elim end.own [
      | inl none ↦
          let within = slice_get_within (fresh_items r.track end.fresh) 0 item is in
          let left = length-drop (length r.track.new.items - end.fresh) r.track.new.items in absurd (omega (arith, within, left, none))
      | inr own ↦ own_by found found_is own.0
    ]
      where
        own_by : (found : Option Shift) → r.track.joint.found ≡ found → r.track.joint.found ≡ Some end.shift
            → Above a r end.fresh end.shift true end.comes last item found
        own_by None none own = absurd (cc)
        own_by (Some found) found_is own = let same : found ≡ end.shift = cc in rw same (inr (omega arith))

    cut_rises : RisesBy end.shift r
    cut_rises = elim end.own [
      | inl none ↦ λ k new old new_is old_is. absurd (no_more a r end.fresh end.shift true end.comes none k new new_is)
      | inr own ↦ sections_after_a_cut a r end.shift cut.some_ended own.0
    ]

  pub published_is_sound : IsSound r.track.served → IsSound r.track.new → IsSound r.list
  published_is_sound was is = elim (planned a).kind [
    | inl on ↦ sound a r (on_fresh on) (on_shift on) on.ending (on_come on) was is same_digits (on_rises a r on) (on_by on)
    | inr cut ↦
        let e = end cut in sound a r e.fresh e.shift true e.comes was is same_digits (cut_rises cut) (cut_by cut)
  ]

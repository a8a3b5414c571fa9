-- The same publication again changes nothing.
use Rattle.publish_law.specs.declared.fault.PublishFault.TheVariants as fault
use Rattle.std.proofs.Common.{get_or, ◌≡◌, ℕ, ◌+◌, ◌-◌, ◌<◌, ◌≤◌, Bool, true, false, ◌&&◌, not, List, [], ◌∷◌, length, map, drop}
use Rattle.std.proofs.Common.{Some, None, Ok, Err, refl, sym, ap, ◌∙◌, inl, inr, arith, length-append, length-drop}
use Rattle.std.proofs.{lemmas.Bool.{cases_Bool, cases_lt, lt-ltb}, lemmas.Bool.Decides.nat_tests}
use Rattle.std.proofs.{lemmas.List.{get_or-append-add, length-map}}
use Rattle.std.proofs.lemmas.{List.get_or-map, List.get_or-drop, List.Folds.{list_all-map, list_any_at}, List.Elements.All-map}
use Rattle.std.proofs.lemmas.{List.Sums.{AllPass-from_list_all, list_all-from_AllPass, suffix_len_is}, Option.slice_get-get_or}
use Rattle.std.proofs.{Common.{suc, ◌||◌, if◌then◌else◌}, Math.Seq.drop-length}
use Rattle.std.specs.{Prelude.{◌==◌, unwrap_or}, List.{All, list_all, list_any}}
use Rattle.hls_writer.specs.declared.items.MediaItem.{MediaItem}
use Rattle.followed_text.specs.declared.followed.FollowedText.{FollowedText}
use Rattle.publish_law.specs.declared.{joint.{Joint.Joint, Shift.Shift}, plan.{Options.Options, Plan.Plan}}
use Rattle.publish_law.specs.declared.{track.{Track.Track}}
use Rattle.publish_law.specs.Joints.{is_unlisted, joint_of, last_of, same_item, unlisted_count}
use Rattle.publish_law.specs.Lists.{change_by, fresh_items, items_with, removed_count, shifted, track_of}
use Rattle.publish_law.specs.Plans.{change_of, first_place, fresh_of, has_other_digits, is_back, is_new_ended, is_served_ended, long_from}
use Rattle.publish_law.specs.Plans.{part_of}
use Rattle.publish_law.specs.Plans.{plan_of, plan_with, published, share_of}
use Rattle.laws_of_publishing.specs.Laws.{Accepted, AgainIsUnchanged, IsTrack, StaysAsItIs, tracks_after}
use Rattle.laws_of_publishing.proofs.{Joined.joint_is, Planned.{IsOn, none_at, planned}, Running.{Last, last_there, same_itself}}

-- ---- tracks after a publication

abbrev after : Plan → Track → Track
after plan track = track_of (unwrap_or (change_of plan track).list track.served) track.new

after_are : (plan : Plan) (tracks : List Track) → tracks_after tracks (map (change_of plan) tracks) ≡ map (after plan) tracks
after_are plan [] = refl
after_are plan (track ∷ tracks) = ap (λ more. after plan track ∷ more) (after_are plan tracks)

-- what becomes of a list: it stays, or goes on with its digits, to its end if that is told
pub record Becomes (track : Track) (fresh : ℕ) (shift : Shift) (ended : Bool) (list : FollowedText) : Type 0 where
  pub digits : list.head.digits ≡ track.served.head.digits
  pub ends : ended ≡ true → list.head.ended ≡ true
  pub goes_on : ended ≡ false → track.served.head.ended ≡ false → list.head.ended ≡ false
  pub stays : ended ≡ false → fresh ≡ 0 → list ≡ track.served
  pub items : 0 < fresh → (removed : ℕ) × (list.items ≡ items_with track fresh removed shift)

becomes : (track : Track) (fresh : ℕ) (shift : Shift) (ended : Bool)
    → Becomes track fresh shift ended (unwrap_or (change_by track fresh shift ended).list track.served)
becomes track fresh shift ended = elim (cases_Bool (fresh == 0)) [
  | inr some ↦ rw some (record {
    digits = refl;
    ends = λ is. is;
    goes_on = λ is was. is;
    stays = λ is none. absurd (grind (arith, nat_tests));
    items = λ _. (removed_count track fresh, refl);
  })
  | inl none ↦ elim (cases_Bool (ended && not track.served.head.ended)) [
    | inl ends ↦ rw (none, ends) (record {
      digits = refl;
      ends = λ is. is;
      goes_on = λ is was. is;
      stays = λ is zero. absurd (grind (arith, nat_tests));
      items = λ some. absurd (grind (arith, nat_tests));
    })
    | inr stays ↦ rw (none, stays) (record {
      digits = refl;
      ends = λ is. grind (arith, nat_tests);
      goes_on = λ is was. was;
      stays = λ is zero. refl;
      items = λ some. absurd (grind (arith, nat_tests));
    })
  ]
]

after_becomes : (plan : Plan) (track : Track)
    → Becomes track (part_of plan track).0 (part_of plan track).1 plan.ending (after plan track).served
after_becomes plan track = becomes track (part_of plan track).0 (part_of plan track).1 plan.ending

-- ---- joints after a publication

-- Of a list that ends with the new one's last segment, in any section, the new one has the last, and nothing is fresh behind it.
module _ (served new : List MediaItem) (last : MediaItem) (last_is : last_of new ≡ Some last)
    (last_at : get_or new (length new - 1) last ≡ last) (end : MediaItem) (end_is : last_of served ≡ Some end)
    (end_at : get_or served (length served - 1) end ≡ end) (some : 0 < length served) (some_new : 0 < length new)
    (same : same_item last end ≡ true) where
  listed : is_unlisted served last ≡ false
  listed =
      let here = ap (same_item last) end_at ∙ same in
      let any = list_any_at (same_item last) served (length served - 1) end (omega arith) here in rw any refl

  none_unlisted : unlisted_count served new ≡ 0
  none_unlisted =
      let before = λ (some : 0 < length new). ap (is_unlisted served) last_at ∙ listed in
      let is = suffix_len_is (is_unlisted served) new (length new) last (omega arith) (λ k from within. absurd (omega arith)) before in
      omega arith

  pub none_joined : ((joint_of served new).fresh ≡ 0) × ((joint_of served new).met ≡ true)
  unfolding joint_of
  none_joined = rw (none_unlisted, end_is, last_is, same) (refl, refl)

-- the list of a track that got segments
module _ (track : Track) (is : IsTrack track) (fresh removed : ℕ) (shift : Shift) (some : 0 < fresh)
    (few : fresh ≤ length track.new.items) where
  abbrev last : Last track.new.items
  last = last_there track.new.items is.some_new

  abbrev end : MediaItem
  end = shifted shift last.0

  fresh_count : length (fresh_items track fresh) ≡ fresh
  fresh_count = let left = length-drop (length track.new.items - fresh) track.new.items in omega (arith, left)

  count_after : length (items_with track fresh removed shift) ≡ length (drop removed track.served.items) + fresh
  count_after = omega (
    arith,
    length-append (drop removed track.served.items) (map (shifted shift) (fresh_items track fresh)),
    length-map (fresh_items track fresh) (shifted shift),
    fresh_count,
  )

  end_at : get_or (items_with track fresh removed shift) (length (items_with track fresh removed shift) - 1) end ≡ end
  end_at =
      let n = length (drop removed track.served.items) in
      let place : length (items_with track fresh removed shift) - 1 ≡ n + (fresh - 1) = omega (arith, count_after) in
      let inner : length track.new.items - fresh + (fresh - 1) ≡ length track.new.items - 1 = omega arith in
      ap (λ k. get_or (items_with track fresh removed shift) k end) place
      ∙ get_or-append-add (drop removed track.served.items) (map (shifted shift) (fresh_items track fresh)) (fresh - 1) end
      ∙ get_or-map (shifted shift) (fresh_items track fresh) (fresh - 1) last.0 end (omega (arith, fresh_count))
      ∙ ap (shifted shift) (get_or-drop (length track.new.items - fresh) track.new.items (fresh - 1) last.0
      ∙ ap (λ k. get_or track.new.items k last.0) inner ∙ last.1.1)

  end_is : last_of (items_with track fresh removed shift) ≡ Some end
  end_is =
      let count = count_after in
      let k = length (items_with track fresh removed shift) in
      let at = slice_get-get_or (items_with track fresh removed shift) (k - 1) end (omega arith) ∙ ap Some end_at in
      let here : k - 0 - 1 ≡ k - 1 = omega arith in
      rw (lt-ltb 0 k (omega arith), here) at

  pub none_fresh : ((joint_of (items_with track fresh removed shift) track.new.items).fresh ≡ 0)
      × ((joint_of (items_with track fresh removed shift) track.new.items).met ≡ true)
  none_fresh = none_joined (items_with track fresh removed shift) track.new.items last.0 last.1.0 last.1.1 end end_is end_at
      (omega (arith, count_after)) is.some_new (same_itself last.0 (shifted shift last.0).section)

-- ---- the whole

first_place_map : (test : Track → Bool) (change : Track → Track) (place : ℕ) (tracks : List Track)
    → ((track : Track) → test (change track) ≡ test track) → first_place test place (map change tracks) ≡ first_place test place tracks
first_place_map test change place [] same = refl
first_place_map test change place (track ∷ tracks) same =
    rw (same track) (ap (λ o. if test track then Some place else o) (first_place_map test change (place + 1) tracks same))

-- a test that holds of each track as it was before
all_map : (test : Track → Bool) (change : Track → Track) (tracks : List Track)
    → All (λ (track : Track). test (change track) ≡ test track) tracks → list_all test (map change tracks) ≡ list_all test tracks
all_map test change [] same = refl
all_map test change (track ∷ tracks) same =
    rw (same 0 track (omega arith)) (ap (λ b. test track && b) (all_map test change tracks (λ k d within. same (suc k) d (omega arith))))

any_map : (test : Track → Bool) (change : Track → Track) (tracks : List Track)
    → All (λ (track : Track). test (change track) ≡ test track) tracks → list_any test (map change tracks) ≡ list_any test tracks
any_map test change [] same = refl
any_map test change (track ∷ tracks) same =
    rw (same 0 track (omega arith)) (ap (λ b. test track || b) (any_map test change tracks (λ k d within. same (suc k) d (omega arith))))

all_true : (test : Track → Bool) (change : Track → Track) (tracks : List Track) → ((track : Track) → test (change track) ≡ true)
    → list_all test (map change tracks) ≡ true
all_true test change [] holds = refl
all_true test change (track ∷ tracks) holds = rw (holds track) (all_true test change tracks holds)

some_there : (test : Track → Bool) (tracks : List Track) → list_all test tracks ≡ false → 0 < length tracks
some_there test [] is = absurd (cc)
some_there test (track ∷ tracks) is = omega arith

-- nothing comes
none_long : (plan : Plan) (place : ℕ) (tracks : List Track) → All (λ (t : Track). (part_of plan t).0 ≡ 0) tracks
    → long_from plan place tracks ≡ None
none_long plan place [] none = refl
none_long plan place (track ∷ tracks) none =
    let zero_is : length track.new.items - 0 ≡ length track.new.items = omega arith in
    rw (none 0 track (omega arith), zero_is, drop-length track.new.items)
    (none_long plan (place + 1) tracks (λ k d within. none (suc k) d (omega arith)))

ended_again : (options : Options) (tracks : List Track) → first_place has_other_digits 0 tracks ≡ None
    → list_all is_served_ended tracks ≡ true → published options tracks ≡ Err fault.Ended
unfolding published plan_of
ended_again options tracks digits ended = rw (digits, ended) refl

-- a publication in which nothing comes
abbrev plan_again : Options → List Track → Plan
plan_again options tracks = plan_with false (options.end && list_all is_new_ended tracks) (share_of false tracks)

on_again : (options : Options) (tracks : List Track) → first_place has_other_digits 0 tracks ≡ None
    → list_all is_served_ended tracks ≡ false → list_any is_served_ended tracks ≡ false → list_all is_back tracks ≡ false
    → long_from (plan_again options tracks) 0 tracks ≡ None → published options tracks ≡ Ok (record {
      course = (plan_again options tracks).share.course;
      changes = map (change_of (plan_again options tracks)) tracks;
    })
unfolding published plan_of
on_again options tracks digits not_all are_open not_back none = rw (digits, not_all, are_open, not_back, none) refl

module _ (a : Accepted) where
  abbrev plan : Plan
  plan = (planned a).plan

  are_after : tracks_after a.tracks a.publication.changes ≡ map (after (planned a).plan) a.tracks
  are_after = ap (tracks_after a.tracks) (planned a).changes ∙ after_are (planned a).plan a.tracks

  same_digits : (track : Track) → has_other_digits (after (planned a).plan track) ≡ has_other_digits track
  same_digits track = ap (λ d. not (d == track.new.head.digits)) (after_becomes (planned a).plan track).digits

  digits_again : first_place has_other_digits 0 (map (after (planned a).plan) a.tracks) ≡ None
  digits_again = first_place_map has_other_digits (after (planned a).plan) 0 a.tracks same_digits ∙ (planned a).digits

  ended_so : (planned a).plan.ending ≡ true → published a.options (map (after (planned a).plan) a.tracks) ≡ Err fault.Ended
  ended_so ending = ended_again a.options (map (after (planned a).plan) a.tracks) digits_again
      (all_true is_served_ended (after (planned a).plan) a.tracks (λ track. (after_becomes (planned a).plan track).ends ending))

-- whether the lists end
abbrev options_end : Accepted → List Track → Bool
options_end a tracks = a.options.end && list_all is_new_ended tracks

-- a list stays where nothing comes and nothing ends
stays_still : (plan : Plan) (track : Track) → plan.ending ≡ false → (part_of plan track).0 ≡ 0 → StaysAsItIs (change_of plan track)
stays_still plan track going none = rw (none, going) refl

-- some track of a list that has one
first_of : (tracks : List Track) → 0 < length tracks → Track
first_of [] some = absurd (omega arith)
first_of (track ∷ tracks) some = track

module _ (a : Accepted) (on : IsOn a.options a.tracks (planned a).plan) (going : on.ending ≡ false) where
  part_is : (track : Track) → part_of (planned a).plan track ≡ (fresh_of on.back track, (share_of on.back a.tracks).shift)
  part_is track = rw on.plan_is refl

  ending_is : (planned a).plan.ending ≡ false
  ending_is = rw on.plan_is going

  few : (track : Track) → IsTrack track → fresh_of on.back track ≤ length track.new.items
  few track is = elim (cases_Bool on.back) [
    | inl all ↦ rw all (omega arith)
    | inr some ↦ rw (some, is.joint) ((joint_is track.served.items track.new.items).few)
  ]

  -- where nothing came the track is as it was
  stayed : (track : Track) → IsTrack track → fresh_of on.back track ≡ 0 → (after (planned a).plan track).joint ≡ track.joint
  stayed track is none =
      let part = ap (λ (p : ℕ × Shift). p.0) (part_is track) ∙ none in
      let same = (after_becomes (planned a).plan track).stays ending_is part in
      ap (λ (l : FollowedText). joint_of l.items track.new.items) same ∙ sym is.joint

  -- where something came its last segment is the new list's last
  came : (track : Track) → IsTrack track → 0 < fresh_of on.back track
      → ((after (planned a).plan track).joint.fresh ≡ 0) × ((after (planned a).plan track).joint.met ≡ true)
  came track is some =
      let part = part_is track in
      let count = ap (λ (p : ℕ × Shift). p.0) part in
      let made = (after_becomes (planned a).plan track).items (omega (arith, count, some)) in
      let joint = none_fresh track is (part_of (planned a).plan track).0 made.0 (part_of (planned a).plan track).1 (omega
      (arith, count, some))
      (omega (arith, count, few track is)) in (
        ap (λ items. (joint_of items track.new.items).fresh) made.1 ∙ joint.0,
        ap (λ items. (joint_of items track.new.items).met) made.1 ∙ joint.1,
      )

  none_comes : (track : Track) → IsTrack track → (after (planned a).plan track).joint.fresh ≡ 0
  none_comes track is = elim (cases_lt 0 (fresh_of on.back track)) [
    | inl some ↦ (came track is some).0
    | inr no_more ↦
        let none : fresh_of on.back track ≡ 0 = omega arith in
        ap (λ (j : Joint). j.fresh) (stayed track is none) ∙ elim (cases_Bool on.back) [
          | inl all ↦ let zero_is = rw all at none in let some = is.some_new in absurd (omega (arith, zero_is))
          | inr few ↦ rw few at none
        ]
  ]

  back_before : (track : Track) → IsTrack track → is_back (after (planned a).plan track) ≡ true
      → (on.back ≡ false) × (is_back track ≡ true)
  back_before track is back = elim (cases_lt 0 (fresh_of on.back track)) [
    | inl some ↦ let never : false ≡ true = rw (came track is some).1 at back in absurd (cc)
    | inr no_more ↦
        let none : fresh_of on.back track ≡ 0 = omega arith in (
          elim (cases_Bool on.back) [
            | inl all ↦ let zero_is = rw all at none in let some = is.some_new in absurd (omega (arith, zero_is))
            | inr few ↦ few
          ],
          ap (λ (j : Joint). not j.met && (j.fresh == 0)) (sym (stayed track is none)) ∙ back,
        )
  ]

  not_back : list_all is_back (map (after (planned a).plan) a.tracks) ≡ false
  not_back = elim (cases_Bool (list_all is_back (map (after (planned a).plan) a.tracks))) [
    | inr some ↦ some
    | inl all ↦
        let each = AllPass-from_list_all (λ (t : Track). is_back (after (planned a).plan t)) a.tracks
        (sym (list_all-map is_back (after (planned a).plan) a.tracks) ∙ all) in
        let before : All (λ (t : Track). is_back t ≡ true) a.tracks = λ k d within.
        (back_before (get_or a.tracks k d) (a.are_tracks k d within) (each k d within)).1 in
        let whole = list_all-from_AllPass is_back a.tracks before in
        let some = some_there is_served_ended a.tracks on.not_all in
        let first = first_of a.tracks some in
        let back = (back_before (get_or a.tracks 0 first) (a.are_tracks 0 first some) (each 0 first some)).0 in
        absurd (cc (on.are_back, whole, back))
  ]

  same_ends : All (λ (t : Track). is_served_ended (after (planned a).plan t) ≡ is_served_ended t) a.tracks
  same_ends k d within =
      let track = get_or a.tracks k d in
      let is_open = none_at is_served_ended a.tracks k track on.are_open (slice_get-get_or a.tracks k d within) in
      (after_becomes (planned a).plan track).goes_on ending_is is_open ∙ sym is_open

  -- the end is held back as before
  going_on : (options_end a (map (after (planned a).plan) a.tracks)) ≡ false
  going_on = ap (λ b. a.options.end && b) (all_map is_new_ended (after (planned a).plan) a.tracks (λ k d within. refl))
      ∙ sym on.ending_is ∙ going

  again : published a.options (map (after (planned a).plan) a.tracks) ≡ Ok (record {
    course = (plan_again a.options (map (after (planned a).plan) a.tracks)).share.course;
    changes = map (change_of (plan_again a.options (map (after (planned a).plan) a.tracks))) (map (after (planned a).plan) a.tracks);
  })
  again = on_again a.options (map (after (planned a).plan) a.tracks) (digits_again a)
      (all_map is_served_ended (after (planned a).plan) a.tracks same_ends ∙ on.not_all)
      (any_map is_served_ended (after (planned a).plan) a.tracks same_ends ∙ on.are_open) not_back
      (none_long (plan_again a.options (map (after (planned a).plan) a.tracks)) 0 (map (after (planned a).plan) a.tracks)
      (All-map (λ (t : Track). t.joint.fresh ≡ 0) (after (planned a).plan) a.tracks
      (λ k d within. none_comes (get_or a.tracks k d) (a.are_tracks k d within))))

  nothing_changes : All StaysAsItIs (map (change_of (plan_again a.options (map (after (planned a).plan) a.tracks)))
      (map (after (planned a).plan) a.tracks))
  nothing_changes =
      let plan = plan_again a.options (map (after (planned a).plan) a.tracks) in
      All-map StaysAsItIs (change_of plan) (map (after (planned a).plan) a.tracks)
      (All-map (λ (t : Track). StaysAsItIs (change_of plan t)) (after (planned a).plan) a.tracks (λ k d within.
      stays_still plan (after (planned a).plan (get_or a.tracks k d)) going_on
      (none_comes (get_or a.tracks k d) (a.are_tracks k d within))))

pub again_is_unchanged : AgainIsUnchanged
again_is_unchanged a = rw (are_after a) (elim (planned a).kind [
  | inr cut ↦ inl (ended_so a (rw cut.plan_is refl))
  | inl on ↦ elim (cases_Bool on.ending) [
    | inl ends ↦ inl (ended_so a (rw on.plan_is ends))
    | inr going ↦ inr (_, (again a on going, nothing_changes a on going))
  ]
])

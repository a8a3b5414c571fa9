-- What takes a served list's place goes on from it.
use Rattle.std.proofs.Common.{◌≡◌, ℕ, ◌+◌, ◌-◌, ◌<◌, ◌≤◌, min, Bool, true, false, List, [], ◌∷◌, ◌++◌, length, map, drop, ◌⊎◌}
use Rattle.std.proofs.Common.{Option, Some, None}
use Rattle.std.proofs.{Common.{refl, ap, ◌∙◌, inl, inr, arith, length-append, length-drop}, Math.Seq.drop-append_seam}
use Rattle.std.proofs.{Common.ltb, lemmas.{Bool.{cases_Bool, cases_lt, ltb-true}, List.length-map}}
use Rattle.std.specs.{List.All, Prelude.is_some}
use Rattle.hls_writer.specs.declared.items.MediaItem.{MediaItem}
use Rattle.followed_text.specs.declared.followed.FollowedText.{FollowedText}
use Rattle.publish_law.specs.declared.{joint.Shift.Shift}
use Rattle.publish_law.specs.{Joints.{before_last, is_later, is_unlisted, last_of}}
use Rattle.publish_law.specs.{Lists.{fresh_items, most_gone, shifted}}
use Rattle.laws_of_publishing.specs.Laws.{Accepted, GoesOn, ListsGoOn, NothingAgain, NothingOld, Replaced, appended_in, fresh_in}
use Rattle.laws_of_publishing.specs.Laws.{last_items, without_section}
use Rattle.laws_of_publishing.proofs.{Comes.{Comes, cut_comes, on_comes, track_is}, Planned.planned}
use Rattle.laws_of_publishing.proofs.{Tails.tail_passes}

-- the last ones of a list that ends with them
pub tail_of : (xs ys : List MediaItem) (n : ℕ) → n ≡ length ys → last_items n (xs ++ ys) ≡ ys
tail_of xs ys n is =
    let front : length (xs ++ ys) - n ≡ length xs = omega (arith, length-append xs ys) in
    ap (λ k. drop k (xs ++ ys)) front ∙ drop-append_seam xs ys

same_but_section : (shift : Shift) (items : List MediaItem) → map without_section (map (shifted shift) items) ≡ map without_section items
same_but_section shift [] = refl
same_but_section shift (item ∷ items) = ap (λ others. without_section item ∷ others) (same_but_section shift items)

pub before_some : (n : ℕ) (items : List MediaItem) (item : MediaItem) → before_last n items ≡ Some item → n < length items
before_some n items item is = elim (cases_Bool (ltb n (length items))) [
  | inl less ↦ ltb-true n (length items) less
  | inr all ↦ let never : None ≡ Some item = rw all at is in absurd (cc)
]

module _ (a : Accepted) (r : Replaced a) (fresh : ℕ) (shift : Shift) (ended : Bool) (c : Comes a r fresh shift ended) where
  count_is : fresh ≡ length (map (shifted shift) (fresh_items r.track fresh))
  count_is =
      let few = c.fresh_is.few in
      let left = length-drop (length r.track.new.items - fresh) r.track.new.items in
      omega (arith, length-map (fresh_items r.track fresh) (shifted shift))

  pub appended_is : appended_in r ≡ map (shifted shift) (fresh_items r.track fresh)
  appended_is =
      let items = ap (λ (l : FollowedText). l.items) c.made.list_is in
      rw (items, c.made.appended) (tail_of (drop r.change.removed r.track.served.items) (map (shifted shift)
      (fresh_items r.track fresh)) fresh count_is)

  pub fresh_in_is : fresh_in r ≡ fresh_items r.track fresh
  fresh_in_is = ap (λ n. last_items n r.track.new.items) c.made.appended

  -- the track isn't found, and as many stay as the new list has, or it is found, and at most as many go as the new list lacks
  most_go : (found : Option Shift) → r.track.joint.found ≡ found → 0 < r.change.removed
      → (r.change.removed + min (length r.track.new.items) (length r.track.served.items) ≤ length r.track.served.items)
      ⊎ ((0 < length r.track.served.items) × (r.change.removed < length r.track.served.items) × (is_some found ≡ true))
  most_go None is goes =
      let count = c.made.goes (c.made.comes goes) in
      let most : most_gone r.track fresh ≡ length r.track.served.items - length r.track.new.items = rw is refl in
      inl (omega (arith, most))
  most_go (Some found) is goes =
      let count = c.made.goes (c.made.comes goes) in
      let some = c.made.comes goes in
      let served = (track_is a r).some_served in
      elim (c.fresh_is.found found is) [
        | inl none ↦ absurd (omega arith)
        | inr here ↦ let less = before_some fresh r.track.new.items here.item here.item_is in inr (served, omega arith, refl)
      ]

  few_go : r.change.removed < length r.track.served.items
  few_go =
      let is = track_is a r in
      let served = is.some_served in
      let new = is.some_new in
      elim (cases_lt 0 r.change.removed) [
        | inr none ↦ omega arith
        | inl goes ↦ elim (most_go r.track.joint.found refl goes) [ inl window ↦ omega arith | inr found ↦ found.1 ]
      ]

  window : r.track.joint.found ≡ None
      → min (length r.track.new.items) (length r.track.served.items) ≤ length r.track.served.items - r.change.removed
  window none = elim (cases_lt 0 r.change.removed) [
    | inr stays ↦ omega arith
    | inl goes ↦ elim (most_go None none goes) [ inl all ↦ omega arith | inr found ↦ absurd (cc (found.2)) ]
  ]

  pub goes_on : GoesOn r
  goes_on =
      let sequence = ap (λ (l : FollowedText). l.head.sequence) c.made.list_is in
      let small = r.small.sequence in record {
        target = ap (λ (l : FollowedText). l.head.target) c.made.list_is;
        digits = ap (λ (l : FollowedText). l.head.digits) c.made.list_is;
        sequence = omega arith;
        items = rw appended_is (ap (λ (l : FollowedText). l.items) c.made.list_is);
        appended = rw (appended_is, fresh_in_is) (same_but_section shift (fresh_items r.track fresh));
        count = let few = c.fresh_is.few in rw c.made.appended few;
        last_stays = few_go;
        window_stays = window;
      }

  pub nothing_again : All (λ (item : MediaItem). is_unlisted r.track.served.items item ≡ true) (fresh_in r)
  nothing_again = rw fresh_in_is (tail_passes (is_unlisted r.track.served.items) r.track.new.items fresh c.fresh_is.unlisted)

  pub nothing_old : (last : MediaItem) → a.options.back ≡ false → r.track.joint.found ≡ None
      → last_of r.track.served.items ≡ Some last → All (λ (item : MediaItem). is_later last.date item ≡ true) (fresh_in r)
  nothing_old last back none is = rw fresh_in_is (tail_passes (is_later last.date) r.track.new.items fresh
      (c.fresh_is.later last back none is))

pub lists_go_on : ListsGoOn
lists_go_on a r = elim (planned a).kind [
  | inl on ↦ goes_on a r _ _ _ (on_comes a r (planned a).plan on (planned a).changes)
  | inr cut ↦ goes_on a r _ _ _ (cut_comes a r (planned a).plan cut (planned a).changes).comes
]

pub nothing_comes_again : NothingAgain
nothing_comes_again a r = elim (planned a).kind [
  | inl on ↦ nothing_again a r _ _ _ (on_comes a r (planned a).plan on (planned a).changes)
  | inr cut ↦ nothing_again a r _ _ _ (cut_comes a r (planned a).plan cut (planned a).changes).comes
]

pub nothing_old_comes : NothingOld
nothing_old_comes a r last back none is = elim (planned a).kind [
  | inl on ↦ nothing_old a r _ _ _ (on_comes a r (planned a).plan on (planned a).changes) last back none is
  | inr cut ↦ nothing_old a r _ _ _ (cut_comes a r (planned a).plan cut (planned a).changes).comes last back none is
]

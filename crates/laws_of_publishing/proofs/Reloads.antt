-- What takes a served list's place lawfully reloads it.
use Rattle.std.proofs.Common.{◌≡◌, ℕ, zero, suc, ◌+◌, ◌-◌, ◌*◌, ◌^◌, ◌<◌, ◌≤◌, Bool, true, false, List, [], ◌∷◌, ◌++◌, map, drop}
use Rattle.std.proofs.Common.{leb}
use Rattle.std.proofs.Common.{Some, Ok, refl, sym, ◌∙◌, ap, ap₂, inl, inr, arith, zero-add, min, length-append, length-drop}
use Rattle.std.proofs.{lemmas.Bool.{cases_Bool, leb-true}, lemmas.Bool.Decides.nat_tests, lemmas.Nat.pow-add}
use Rattle.std.proofs.{lemmas.List.{map-append, drop-map}, lemmas.List.Sums.{sum_by-append, sum_by-cons}}
use Rattle.std.proofs.Math.Nat.{add-mul, mul-le-mul_left, one-le-pow}
use Rattle.std.specs.Prelude.{slice_get, sum_by}
use Rattle.hls_media.specs.declared.media.{Media.Media, MediaSegment.MediaSegment}
use Rattle.hls_writer.specs.declared.items.MediaItem.{MediaItem}
use Rattle.reload_law.specs.{Laws.{IsInBoth, IsLawful, ReloadsItself, RulesAreSentences}, Rules.{lawful, same_segment, same_section}}
use Rattle.followed_text.specs.declared.followed.FollowedText.{FollowedText}
use Rattle.publish_law.specs.{declared.joint.Shift.Shift, declared.track.{Change.Change, Track.Track}}
use Rattle.publish_law.specs.Lists.{fresh_items, gone, items_with, list_with, shifted, three_targets, units_of}
use Rattle.laws_of_publishing.specs.Laws.{ListsReload, media_told, segment_told}
use Rattle.laws_of_publishing.proofs.{Comes.{cut_comes, on_comes}, Made.IsMade, Planned.planned}

-- ---- how long lists last

abbrev duration : MediaItem → ℕ
duration item = item.duration

-- those that stay last so long, if any goes
gone_lasts : (left wanted : ℕ) (items : List MediaItem) (n : ℕ) → left ≡ units_of items → 0 < n → n ≤ gone left wanted items
    → wanted ≤ units_of (drop n items)
gone_lasts left wanted [] n is some few = absurd (omega arith)
gone_lasts left wanted (item ∷ items) zero is some few = absurd (omega arith)
gone_lasts left wanted (item ∷ items) (suc zero) is some few =
    let sum = sum_by-cons duration item items in
    elim (cases_Bool (leb wanted (left - item.duration))) [
      | inl fits ↦ omega (arith, leb-true wanted (left - item.duration) fits)
      | inr less ↦ let none = rw less at few in absurd (omega (arith, none))
    ]
gone_lasts left wanted (item ∷ items) (suc (suc n)) is some few =
    let sum = sum_by-cons duration item items in
    elim (cases_Bool (leb wanted (left - item.duration))) [
      | inl fits ↦
          let more = rw fits at few in
          gone_lasts (left - item.duration) wanted items (suc n) (omega arith) (omega arith) (omega (arith, more))
      | inr less ↦ let none = rw less at few in absurd (omega (arith, none))
    ]

shifted_last : (shift : Shift) (items : List MediaItem) → units_of (map (shifted shift) items) ≡ units_of items
shifted_last shift [] = refl
shifted_last shift (item ∷ items) =
    sum_by-cons duration (shifted shift item) (map (shifted shift) items) ∙ ap (λ n. item.duration + n) (shifted_last shift items)
    ∙ sym (sum_by-cons duration item items)

abbrev nanos : List MediaSegment → ℕ
nanos segments = sum_by (λ segment. segment.duration) segments

told_last : (digits : ℕ) (items : List MediaItem) → nanos (map (segment_told digits) items) ≡ units_of items * 10 ^ (9 - digits)
told_last digits [] = omega arith
told_last digits (item ∷ items) =
    sum_by-cons (λ (s : MediaSegment). s.duration) (segment_told digits item) (map (segment_told digits) items)
    ∙ ap (λ n. item.duration * 10 ^ (9 - digits) + n) (told_last digits items)
    ∙ sym (add-mul item.duration (units_of items) (10 ^ (9 - digits)))
    ∙ ap (λ n. n * 10 ^ (9 - digits)) (sym (sum_by-cons duration item items))

three_targets_last : (digits target units : ℕ) → 3 * target * 10 ^ digits ≤ units → 3 * 10 ^ 9 * target ≤ units * 10 ^ (9 - digits)
three_targets_last digits target units le =
    let same : 9 + (digits - 9) ≡ digits + (9 - digits) = omega arith in
    let tens : 10 ^ 9 * 10 ^ (digits - 9) ≡ 10 ^ digits * 10 ^ (9 - digits) =
    sym (pow-add 10 9 (digits - 9)) ∙ ap (λ (n : ℕ). 10 ^ n) same ∙ pow-add 10 digits (9 - digits) in
    let times = ap (λ n. 3 * target * n) tens in
    let some : 1 ≤ 10 ^ (digits - 9) = one-le-pow (digits - 9) 10 (omega arith) in
    omega (arith, times, mul-le-mul_left (3 * target * 10 ^ 9) some, mul-le-mul_left (10 ^ (9 - digits)) le)

-- ---- lists that lose first segments and grow

get_drop : (m : ℕ) (xs : List MediaSegment) (k : ℕ) → slice_get (drop m xs) k ≡ slice_get xs (m + k)
get_drop zero xs k = ap (λ n. slice_get xs n) (sym (zero-add k))
get_drop (suc m) [] k = refl
get_drop (suc m) (x ∷ xs) k = let more : suc m + k ≡ suc (m + k) = omega arith in rw more (get_drop m xs k)

get_more : (xs more : List MediaSegment) (k : ℕ) (a : MediaSegment) → slice_get xs k ≡ Some a → slice_get (xs ++ more) k ≡ Some a
get_more [] more k a is = absurd (cc)
get_more (x ∷ xs) more zero a is = is
get_more (x ∷ xs) more (suc k) a is = get_more xs more k a is

abbrev media_from : (target sequence : ℕ) → Bool → List MediaSegment → Media
media_from target sequence ended segments = record { target = target; sequence = sequence; ended = ended; segments = segments }

module _ (sentences : RulesAreSentences) (itself : ReloadsItself) where
  same : (a : MediaSegment) → (same_segment a a ≡ true) × (same_section a a ≡ true)
  same a =
      let media : Media = media_from 0 0 false (a ∷ []) in
      let is : IsLawful media media = (sentences media media).0 (itself media) in
      (is.segments 0 a a (record { in_old = refl; in_new = refl }), is.sections 0 a a (record { in_old = refl; in_new = refl }))

  moved_is_lawful : (target first n : ℕ) (ended : Bool) (olds more : List MediaSegment)
      → (0 < n → 3 * 10 ^ 9 * target ≤ nanos (drop n olds ++ more))
      → lawful (media_from target first false olds) (media_from target (first + n) ended (drop n olds ++ more)) ≡ Ok tt
  moved_is_lawful target first n ended olds more lasts =
      let old = media_from target first false olds in
      let new = media_from target (first + n) ended (drop n olds ++ more) in
      let one : (number : ℕ) (a b : MediaSegment) → IsInBoth old new number a b → a ≡ b = λ number a b both.
      let dropped = get_drop n olds (number - (first + n)) in
      let place : first + n ≤ number → n + (number - (first + n)) ≡ number - first = λ le. omega arith in
      grind (arith, nat_tests, both.in_old, both.in_new, dropped, place, get_more (drop n olds) more (number - (first + n)) a) in
      let is : IsLawful old new = record {
        target = refl;
        sequence = omega arith;
        segments = λ number a b both. cc (one number a b both, (same a).0);
        sections = λ number a b both. cc (one number a b both, (same a).1);
        ends = omega (arith, length-drop n olds, length-append (drop n olds) more);
        ended = λ was. absurd (cc);
        three_targets = λ goes_on rises. lasts (omega arith);
      } in
      (sentences old new).1 is

  list_reloads : (track : Track) (fresh n : ℕ) (shift : Shift) (ended : Bool) (list : FollowedText) → track.served.head.ended ≡ false
      → list_with track.served.head n ended (items_with track fresh n shift) ≡ list → list.head.sequence < 2 ^ 63
      → (0 < n → three_targets track.served.head ≤ units_of (drop n track.served.items) + units_of (fresh_items track fresh))
      → lawful (media_told track.served) (media_told list) ≡ Ok tt
  list_reloads track fresh n shift ended list is_open made small lasts =
      let head = track.served.head in
      let digits = head.digits in
      let kept = drop n track.served.items in
      let come = map (shifted shift) (fresh_items track fresh) in
      let told = map (segment_told digits) in
      let old_is : media_told track.served ≡ media_from head.target head.sequence false (told track.served.items) =
      ap (λ ended. media_from head.target head.sequence ended (told track.served.items)) is_open in
      let few = rw (← made) at small in
      let number : min (head.sequence + n) (2 ^ 64 - 1) ≡ head.sequence + n = omega arith in
      let apart : told (kept ++ come) ≡ drop n (told track.served.items) ++ told come = simp (drop-map, map-append) in
      let new_is : media_told list ≡ media_from head.target (head.sequence + n) ended (drop n (told track.served.items) ++ told come) =
      rw (← made) (ap₂ (λ sequence segments. media_from head.target sequence ended segments) number apart) in
      let units : units_of (kept ++ come) ≡ units_of kept + units_of (fresh_items track fresh) =
      sum_by-append duration kept come ∙ ap (λ m. units_of kept + m) (shifted_last shift (fresh_items track fresh)) in
      let long : 0 < n → 3 * 10 ^ 9 * head.target ≤ nanos (drop n (told track.served.items) ++ told come) = λ goes.
      let enough = three_targets_last digits head.target (units_of (kept ++ come)) (rw units (lasts goes)) in
      rw (← apart, told_last digits (kept ++ come)) enough in
      rw (old_is, new_is) (moved_is_lawful head.target head.sequence n ended (told track.served.items) (told come) long)

  made_reloads : (track : Track) (fresh : ℕ) (shift : Shift) (ended : Bool) (change : Change) (list : FollowedText)
      → IsMade track fresh shift ended change list → track.served.head.ended ≡ false → list.head.sequence < 2 ^ 63
      → lawful (media_told track.served) (media_told list) ≡ Ok tt
  made_reloads track fresh shift ended change list made is_open small =
      let n = change.removed in
      let wanted = three_targets track.served.head - units_of (fresh_items track fresh) in
      let lasts : 0 < n → three_targets track.served.head ≤ units_of (drop n track.served.items) + units_of (fresh_items track fresh) =
      λ goes. let count = made.goes (made.comes goes) in
      let stay = gone_lasts (units_of track.served.items) wanted track.served.items n refl goes (omega (arith, count)) in omega
      (arith, stay) in
      list_reloads track fresh n shift ended list is_open (sym made.list_is) small lasts

  pub lists_reload : ListsReload
  lists_reload a r = elim (planned a).kind [
    | inl on ↦
        let c = on_comes a r (planned a).plan on (planned a).changes in
        made_reloads r.track _ _ _ r.change r.list c.made c.is_open r.small.sequence
    | inr cut ↦
        let end = cut_comes a r (planned a).plan cut (planned a).changes in
        made_reloads r.track _ _ _ r.change r.list end.comes.made end.comes.is_open r.small.sequence
  ]

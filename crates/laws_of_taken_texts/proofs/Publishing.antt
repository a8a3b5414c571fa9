-- What is published has the bounds of what is read.
use Rattle.std.proofs.Common.{◌≡◌, ℕ, ℤ, zero, suc, ◌+◌, ◌-◌, ◌*◌, ◌/◌, ◌%◌, ◌^◌, ◌<◌, ◌≤◌, Bool, false, not, List, [], ◌∷◌, length, map}
use Rattle.std.proofs.Common.{drop, get_or, nat_le, nat_lt, Option, Some, None, option_map, Result, Ok, Err, refl, sym, ◌∙◌, ap, subst}
use Rattle.std.proofs.Common.{arith, inl, inr, length-append, length-drop}
use Rattle.std.proofs.{Math.Nat.{mod-lt, mul-le-mul_right, one-le-pow}, lemmas.Nat.{div-add-mod', pow-add}}
use Rattle.std.proofs.{lemmas.Bool.{cases_Bool, ltb-false, not-true}, lemmas.Bool.Decides.nat_tests, lemmas.Option.same_Some}
use Rattle.std.proofs.lemmas.List.Elements.{All-append, All-cons, All-drop, All-head, All-nil, All-tail}
use Rattle.std.proofs.lemmas.List.Sums.{prefix_len_passes}
use Rattle.std.specs.List.{All, position, position_or_len, slice_get}
use Rattle.bridge_io.specs.Answer.{and_then}
use Rattle.iso_time.specs.{Civil.instant_text, Instant.instant_of}
use Rattle.hls_media.specs.Media.{is_long}
use Rattle.hls_writer.specs.{Finished.rounded, Items.item_of, declared.items.MediaItem.MediaItem}
use Rattle.publish_law.specs.{Lists.{first_section, fresh_items, is_long as is_long_item, long_in}}
use Rattle.publish_law.specs.Plans.{change_of, long_from, long_or, part_of, plan_of, published, published_by, unless_long}
use Rattle.publish_law.specs.declared.{fault.PublishFault.PublishFault, plan.{Options.Options, Plan.Plan, Publication.Publication}}
use Rattle.publish_law.specs.declared.track.Track.{Track}
use Rattle.laws_of_playlists.specs.ReadMedia.{nanos_of}
use Rattle.laws_of_publishing.specs.Laws.{Accepted, Replaced, appended_in, fresh_in, without_section}
use Rattle.laws_of_publishing.proofs.{Comes.change_is, Going.lists_go_on, Made.made}
use Rattle.laws_of_published_texts.proofs.{Goes.same_digits, Sound.IsSound}
use Rattle.laws_of_taken_playlists.specs.Laws.{IsTakenItem}
use Rattle.laws_of_taken_texts.proofs.{Dates.{IsDated, IsShortFor}, Taking.IsBoundedList}

-- ---- no long segment is published

-- the plan of a publication, by which no segment is too long
record IsPlan (tracks : List Track) (publication : Publication) (plan : Plan) : Type 0 where
  none_long : long_from plan 0 tracks ≡ None
  changes : publication.changes ≡ map (change_of plan) tracks

one_publication : (p q : Publication) → ◌≡◌ {A = Result Publication PublishFault} (Ok p) (Ok q) → p ≡ q
one_publication p q is = cc

module _ (options : Options) (tracks : List Track) (publication : Publication) where
  plan_with : (plan : Plan) (long : Option (ℕ × ℕ)) → long_from plan 0 tracks ≡ long → unless_long long plan tracks ≡ Ok publication
      → IsPlan tracks publication plan
  plan_with plan (Some at) of is = absurd (cc)
  plan_with plan None of is = record {
    none_long = of;
    changes = sym (ap (λ (p : Publication). p.changes) (one_publication _ publication is));
  }

  plan_in : (plan : Result Plan PublishFault) → and_then plan (published_by tracks) ≡ Ok publication
      → (p : Plan) × IsPlan tracks publication p
  plan_in (Err f) is = absurd (cc)
  plan_in (Ok plan) is = (plan, plan_with plan (long_from plan 0 tracks) refl is)

  the_plan : published options tracks ≡ Ok publication → (p : Plan) × IsPlan tracks publication p
  unfolding published
  the_plan is = plan_in (plan_of options tracks) is

none_of : (place : ℕ) (o : Option ℕ) (others : Option (ℕ × ℕ)) → long_or place o others ≡ None → (o ≡ None) × (others ≡ None)
none_of place None others none = (refl, none)
none_of place (Some segment) others none = absurd (cc)

long_at : (plan : Plan) (place : ℕ) (tracks : List Track) (k : ℕ) (track : Track) → long_from plan place tracks ≡ None
    → slice_get tracks k ≡ Some track → long_in track (part_of plan track).0 ≡ None
long_at plan place [] k track none is = absurd (cc)
long_at plan place (t ∷ ts) zero track none is =
    let parts = none_of place (long_in t (part_of plan t).0) (long_from plan (place + 1) ts) none in
    subst (λ (x : Track). long_in x (part_of plan x).0 ≡ None) (same_Some t track is) parts.0
long_at plan place (t ∷ ts) (suc k) track none is =
    let parts = none_of place (long_in t (part_of plan t).0) (long_from plan (place + 1) ts) none in
    long_at plan (place + 1) ts k track parts.1 is

no_place : (f : ℕ → ℕ) (o : Option ℕ) → option_map f o ≡ None → o ≡ None
no_place f None none = refl
no_place f (Some n) none = absurd (cc)

none_passes : {X : Type 0} (p : X → Bool) (xs : List X) → position p xs ≡ None → All (λ x. p x ≡ false) xs
none_passes p xs none = elim (cases_Bool (nat_lt (position_or_len p xs) (length xs))) [
  | inl some ↦ let never : Some (position_or_len p xs) ≡ None = rw some at none in absurd (cc)
  | inr all ↦ λ k d within.
      let low = ltb-false (position_or_len p xs) (length xs) all in
      not-true (p (get_or xs k d)) (prefix_len_passes (λ x. not (p x)) xs k d (omega (arith, low, within)))
]

-- ---- a duration that isn't above the target duration is short for a reader

module _ (target quotient rest unit place : ℕ) (whole : unit * place ≡ 10 ^ 9) where
  parts : (quotient * unit + rest) * place ≡ quotient * 10 ^ 9 + rest * place
  parts = rw (← whole) (omega arith)

  up : quotient + 1 ≤ target → suc rest ≤ unit → (quotient * unit + rest) * place ≤ target * 10 ^ 9 + 5 * 10 ^ 8
  up above less = let most = mul-le-mul_right place less in omega (arith, above, parts, most, whole)

  down : quotient ≤ target → suc (2 * rest) ≤ unit → (quotient * unit + rest) * place ≤ target * 10 ^ 9 + 5 * 10 ^ 8
  down above less = let most = mul-le-mul_right place less in omega (arith, above, parts, most, whole)

short_for : (target digits units : ℕ) → digits ≤ 9 → nat_lt target (rounded (10 ^ digits) units) ≡ false
    → is_long target (Some (nanos_of digits units)) ≡ false
short_for target digits units few fits =
    let unit = 10 ^ digits in
    let place = 10 ^ (9 - digits) in
    let quotient = units / unit in
    let rest = units % unit in
    let nine : digits + (9 - digits) ≡ 9 = omega arith in
    let whole : unit * place ≡ 10 ^ 9 = sym (pow-add 10 digits (9 - digits)) ∙ ap (λ (n : ℕ). 10 ^ n) nine in
    let some : 0 < unit = one-le-pow digits 10 (omega arith) in
    let left : rest < unit = mod-lt units some in
    let all : quotient * unit + rest ≡ units = div-add-mod' units unit in
    let value : units * place ≤ target * 10 ^ 9 + 5 * 10 ^ 8 = subst (λ (n : ℕ). n * place ≤ target * 10 ^ 9 + 5 * 10 ^ 8) all
    (elim (cases_Bool (nat_le unit (2 * rest))) [
      | inl half ↦
          let above : nat_lt target (quotient + 1) ≡ false = rw half at fits in
          up target quotient rest unit place whole (ltb-false target (quotient + 1) above) (omega (arith, left))
      | inr less ↦
          let above : nat_lt target quotient ≡ false = rw less at fits in
          let low : suc (2 * rest) ≤ unit = grind (arith, nat_tests) in
          down target quotient rest unit place whole (ltb-false target quotient above) low
    ]) in
    grind (arith, nat_tests)

-- ---- the published list

same_all : (P : MediaItem → Type 0) → ((x y : MediaItem) → without_section x ≡ without_section y → P y → P x) → (xs ys : List MediaItem)
    → map without_section xs ≡ map without_section ys → All P ys → All P xs
same_all P one [] ys same all = All-nil P
same_all P one (x ∷ xs) [] same all = absurd (cc)
same_all P one (x ∷ xs) (y ∷ ys) same all =
    let first : without_section x ≡ without_section y = cc in
    let more : map without_section xs ≡ map without_section ys = cc in
    All-cons P x xs (one x y first (All-head P y ys all)) (same_all P one xs ys more (All-tail P y ys all))

taken_alike : (digits : ℕ) (x y : MediaItem) → without_section x ≡ without_section y → IsTakenItem digits (item_of y)
    → IsTakenItem digits (item_of x)
taken_alike digits x y same is =
    let back : IsTakenItem digits (item_of (without_section y)) = record { range = is.range; map = is.map; lasts = is.lasts } in
    let own = subst (λ (i : MediaItem). IsTakenItem digits (item_of i)) (sym same) back in
    record { range = own.range; map = own.map; lasts = own.lasts }

dated_alike : (x y : MediaItem) → without_section x ≡ without_section y → IsDated y → IsDated x
dated_alike x y same is =
    subst (λ (date : ℤ). instant_of (instant_text date) ≡ Ok date) (sym (ap (λ (i : MediaItem). i.date) same)) is

short_alike : (target digits : ℕ) (x y : MediaItem) → without_section x ≡ without_section y → IsShortFor target digits y
    → IsShortFor target digits x
short_alike target digits x y same is = ap (λ (i : MediaItem). is_long target (Some (nanos_of digits i.duration))) same ∙ is

first_small : (items : List MediaItem) → All (λ (item : MediaItem). item.section < 2 ^ 63) items → first_section 0 items < 2 ^ 63
first_small [] small = omega arith
first_small (item ∷ items) small = small 0 item (omega arith)

module _ (a : Accepted) (r : Replaced a) where
  fresh_short : r.track.served.head.digits ≤ 9
      → All (IsShortFor r.track.served.head.target r.track.served.head.digits) (fresh_in r)
  fresh_short few =
      let head = r.track.served.head in
      let plan = the_plan a.options a.tracks a.publication a.is in
      let part = part_of plan.0 r.track in
      let own = made r.track part.0 part.1 plan.0.ending r.change r.list (change_is a r plan.0 plan.1.changes) r.list_is in
      let long = long_at plan.0 0 a.tracks r.place r.track plan.1.none_long r.track_is in
      let none = none_passes (is_long_item head.target (10 ^ head.digits)) (fresh_items r.track part.0) (no_place _ _ long) in
      let all : All (IsShortFor head.target head.digits) (fresh_items r.track part.0) =
      λ k d within. short_for head.target head.digits (get_or (fresh_items r.track part.0) k d).duration few (none k d within) in
      subst (λ (n : ℕ). All (IsShortFor head.target head.digits) (fresh_items r.track n)) (sym own.appended) all

  all_of : (P : MediaItem → Type 0) → ((x y : MediaItem) → without_section x ≡ without_section y → P y → P x)
      → All P r.track.served.items → All P (fresh_in r) → All P r.list.items
  all_of P one served fresh =
      let on = lists_go_on a r in
      subst (All P) (sym on.items) (All-append P (drop r.change.removed r.track.served.items) (appended_in r)
      (All-drop P r.change.removed r.track.served.items served) (same_all P one (appended_in r) (fresh_in r) on.appended fresh))

  pub published_is_bounded : IsSound r.list → IsBoundedList r.track.served → IsBoundedList r.track.new
      → length r.list.items ≤ 100_000 → IsBoundedList r.list
  published_is_bounded sound was is few =
      let on = lists_go_on a r in
      let digits = r.track.served.head.digits in
      let target = r.track.served.head.target in
      let Own = λ (n : ℕ) (item : MediaItem). IsTakenItem n (item_of item) in
      let last = length r.track.new.items - r.change.appended in
      let taken = all_of (Own digits) (taken_alike digits) was.each (All-drop (Own digits) last r.track.new.items
      (subst (λ (n : ℕ). All (Own n) r.track.new.items) (same_digits a r) is.each)) in
      let short = all_of (IsShortFor target digits) (short_alike target digits) was.short (fresh_short (rw on.digits at sound.few)) in
      record {
        digits = rw on.digits was.digits;
        head = record {
          target = omega (arith, was.head.target, on.target);
          sequence = r.small.sequence;
          first_section = rw sound.first (first_small r.list.items r.small.sections);
        };
        few = few;
        some =
            let left = length-drop r.change.removed r.track.served.items in
            let many = ap (λ (l : List MediaItem). length l) on.items in
            omega (arith, many, length-append (drop r.change.removed r.track.served.items) (appended_in r), left, on.last_stays);
        each = rw on.digits taken;
        short = rw (on.digits, on.target) short;
        dated = all_of IsDated dated_alike was.dated (All-drop IsDated last r.track.new.items is.dated);
      }

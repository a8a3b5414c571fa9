-- What is so of the presentation that is in force from an accepted update on.
use Rattle.std.proofs.Common.{◌≡◌, ℕ, ◌+◌, ◌<◌, ◌≤◌, ◌||◌, not, Bool, true, false, ℤ, pos, List, [], ◌++◌, length, Option, Some, None, Ok}
use Rattle.std.proofs.{Common.{refl, sym, ◌∙◌, ap, subst, arith, ◌-ℤ◌, get_or}, lemmas.List.append-nil, lemmas.Option.slice_get-map}
use Rattle.std.proofs.{lemmas.Bool.and_parts, lemmas.List.Elements.{All-nil, filter_passes}}
use Rattle.std.specs.{Prelude.{IfSome, filter, if◌then◌else◌, int_lt, option_map, slice_get, unwrap_or, All, is_none}, List.list_any}
use Rattle.std.specs.Option.{option_map_or}
use Rattle.mpd_rules.specs.Laws.{are_once}
use Rattle.presentation.specs.Counting.{sections_of}
use Rattle.presentation.specs.Presented.{Following, Presented, at_instant, listed_at, looked_at, start_of, content_at, listed_in}
use Rattle.presentation.specs.{Presented.{whole_window, window_at, window_of}, declared.parts.Content.Content}
use Rattle.mpd_presentation.specs.{PresentedLaws.{PresentedAreFew, PresentedAreFollowed}, Told.presented_of}
use Rattle.live_meaning.specs.{Updates.{Refresh, Reset, Tick, Update, Values}, Segments.{id_at, place_of, listed_of}}
use Rattle.live_meaning.specs.Known.{Known, goes_on, ids_of, is_new, known_by, periods_of}
use Rattle.live_meaning.specs.{Histories.{Common, availability_start_of, common_with, force_by, numbering_of}, States.State}
use Rattle.live_meaning.specs.Refusals.{Changed, are_alike, differs_at, ids_in, is_changed, lack_ids, moved_told, mpd_told, older_than}
use Rattle.live_meaning.specs.{Refusals.{rewritten_told, starts_otherwise, told_if}, Laws.HasRisingPeriods}
use Rattle.live_meaning.proofs.Histories.{IsAllowed, none_each, told_none, get_more, mapped}
use Rattle.live_meaning.proofs.Accepted.{place_is, IsInForce, IsKnownIn, later_in_force, id_there}
use Rattle.live_meaning.proofs.Orders.{period_timed, listed_have, periods_are_listed_in_order}
use Rattle.live_judge.specs.{Changed.AreUnmoved, Known.StandsAt, Sound.{AreTimed, IsSound, StartsAt, IsSegmentOf}}
use Rattle.live_judge.proofs.{Listing.starts_by, Places.{known_there, last_stands, place_there, same_stand, stands_there}}
use Rattle.exact_time.specs.Time.{IsAtMost, Time, nanoseconds}
use Rattle.exact_time.proofs.TimeOrder.{at_most-true}
use Rattle.timeline.specs.{declared.window.Window.Window, Expansions.Timing, Listed.{expansion, is_listed, is_until}}
use Rattle.followed.specs.Order.{InOrder}

-- ---- the Periods in force

module _ (known : List Known) (p : Presented) (place : ℕ) (stands : StandsAt (ids_of known) (ids_in p) place) where
  pub place_in : (r : ℕ) → r < length p.sections → place_of (ids_of known) (id_at p r) ≡ place + r
  place_in r less = place_there (ids_of known) (ids_in p) place r (id_at p r) stands (id_there p.sections r less)

  -- one is known at its place
  known_at_place : (r : ℕ) → r < length p.sections → (k : Known) × (slice_get known (place + r) ≡ Some k)
  known_at_place r less =
      let (k, at, same) = mapped (λ (k : Known). k.id) (slice_get known (place + r)) (id_at p r)
      (sym (slice_get-map (λ (k : Known). k.id) known (place + r))
      ∙ stands_there (ids_of known) (ids_in p) place r (id_at p r) stands (id_there p.sections r less)) in
      (k, at)

  pub start_known : AreUnmoved known p place → (r : ℕ) → r < length p.sections
      → option_map (λ (k : Known). k.start) (slice_get known (place + r)) ≡ Some (start_of p r)
  start_known starts r less = let at = known_at_place r less in rw at.1 (ap Some (rw at.1 at (starts r less)))

  pub starts_stay : (more : List Known) → AreUnmoved known p place → AreUnmoved (known ++ more) p place
  starts_stay more starts r less =
      let at = known_at_place r less in rw (get_more known more (place + r) at.0 at.1) (rw at.1 at (starts r less))

  pub starts_in : ((r : ℕ) → r < length p.sections → IsKnownIn known p r) → AreUnmoved known p place
  starts_in same r less =
      let own = same r less in
      let there : known_by known (id_at p r) ≡ slice_get known (place + r) = known_there known (id_at p r)
      ∙ ap (slice_get known) (sym (place_is (ids_of known) (id_at p r)) ∙ place_in r less) in
      subst (λ (o : Option Known). IfSome o (λ k. k.start ≡ start_of p r)) (sym own.1.0 ∙ there) own.1.1.0

-- ---- what is so of it

pub record IsNew (c : Common) : Type 0 where
  pub place : ℕ
  pub stands : StandsAt (ids_of c.known) (ids_in c.force) place
  pub starts : AreUnmoved c.known c.force place
  pub follows : StartsAt (availability_start_of c.opened) c.force
  pub looked : IfSome c.force.following (λ f. f.instant ≡ c.instant)
  pub alike : length c.force.tracks ≡ length c.opened.tracks
  pub few : length c.force.sections ≤ 1000
  pub timed : (now : ℤ) (section track : ℕ) → AreTimed (listed_at (looked_at now c.force) section track)
  pub own : (section track : ℕ) → AreTimed (listed_at c.force section track)

-- of an MPD's
looked_by : (live : Bool) (now start : ℤ) (depth : Option ℕ)
    → IfSome (if live then Some (record { instant = now; availability_start = start; depth = depth }) else None)
    (λ (f : Following). f.instant ≡ now)
looked_by true now start depth = refl
looked_by false now start depth = tt

module _ (few : PresentedAreFew) (followed : PresentedAreFollowed) where
  pub mpd_new : (c : Common) (mpd : Values) → IsInForce c.opened c.known c.force
      → presented_of mpd c.terms.url (Some c.instant) ≡ Ok c.force → StartsAt (availability_start_of c.opened) c.force → IsNew c
  mpd_new c mpd force made follows =
      let stands = last_stands (ids_of c.known) (ids_in c.force) force.last in
      record {
        place = length force.last.front;
        stands = stands;
        starts = starts_in c.known c.force (length force.last.front) stands force.same;
        follows = follows;
        looked = rw (followed mpd c.terms.url (Some c.instant) c.force made) (looked_by mpd.facts.live c.instant _ mpd.facts.depth);
        alike = force.tracks;
        few = (few mpd c.terms.url (Some c.instant) c.force made).0;
        timed = λ now section track. period_timed (looked_at now c.force) section track force.sound;
        own = λ section track. period_timed c.force section track force.sound;
      }

-- ---- of a later MPD's

none_of : (a b c d e f : Bool) → (a || b || not c || not d || not e || f) ≡ false → a ≡ false
none_of a b c d e f is = grind arith

follows_by : (o : Option ℤ) (live : Bool) (now : ℤ) (depth : Option ℕ) (own : ℤ)
    → option_map_or (λ start. int_lt start own || int_lt own start) o live ≡ false
    → IfSome (if live then Some (record { instant = now; availability_start = unwrap_or o (pos 0); depth = depth }) else None)
    (λ (f : Following). f.availability_start ≡ own)
follows_by o true now depth own is = starts_by o true depth now now own is
follows_by o false now depth own is = tt

module _ (s : State) (is : IsSound s) where
  -- an MPD is taken as it would be where none were in force
  abbrev none : Presented
  none = record {
    tracks = s.common.opened.tracks;
    sections = [];
    contents = [];
    left_out = 0;
    following = s.common.force.following;
    places = [];
  }

  abbrev alone : State
  alone = record { common = record s.common { force = none }; tracks = s.tracks }

  none_in_force : IsInForce s.common.opened s.common.known none
  none_in_force = record {
    last = record { front = ids_of s.common.known; split = sym (append-nil (ids_of s.common.known)); once = is.stands.once };
    sound = λ j d within. absurd (omega arith);
    tracks = refl;
    filled = omega arith;
    same = λ r less. absurd (omega arith);
  }

  taken_alone : (u : Update) (p : Presented) → IsAllowed s u p → force_by s.common.terms none u ≡ Ok p → IsAllowed alone u p
  taken_alone u p allowed forced = record {
    forced = forced;
    unended = allowed.unended;
    mpd = allowed.mpd;
    long = allowed.long;
    window = allowed.window;
    urls = allowed.urls;
  }

  follows_as : PresentedAreFollowed → (mpd : Values) (now : ℤ) (p : Presented) → presented_of mpd s.common.terms.url (Some now) ≡ Ok p
      → mpd_told s (Some mpd) p ≡ [] → StartsAt (availability_start_of s.common.opened) p
  follows_as followed mpd now p made told =
      let c : Common = s.common in
      let each = none_each (older_than c.published mpd.facts.publish_time) (told_if (is_changed c mpd p) Changed) (moved_told c p)
      (rewritten_told c p 0 s.tracks) told in
      let starts : starts_otherwise c mpd ≡ false =
      none_of (starts_otherwise c mpd) (lack_ids mpd) (are_once (ids_in p)) (goes_on (ids_of c.known) (ids_in p))
      (are_alike c.opened.tracks p.tracks) (list_any (differs_at c p) (sections_of p)) (told_none (is_changed c mpd p) Changed each.1) in
      rw (followed mpd c.terms.url (Some now) p made) (follows_by mpd.facts.availability_start mpd.facts.live now mpd.facts.depth
      (availability_start_of c.opened) starts)

-- ---- of the one that is in force already

twice_of : (o : Option Following) (at now : ℤ) → option_map (at_instant at) (option_map (at_instant now) o) ≡ option_map (at_instant at) o
twice_of None at now = refl
twice_of (Some f) at now = refl

twice : (p : Presented) (at now : ℤ) → looked_at at (looked_at now p) ≡ looked_at at p
twice p at now = ap (λ (o : Option Following). let q : Presented = record p { following = o } in q) (twice_of p.following at now)

same_follows : (o : Option Following) (now own : ℤ) → IfSome o (λ f. f.availability_start ≡ own)
    → IfSome (option_map (at_instant now) o) (λ f. f.availability_start ≡ own)
same_follows None now own is = tt
same_follows (Some f) now own is = is

same_looked : (o : Option Following) (now : ℤ) → IfSome (option_map (at_instant now) o) (λ f. f.instant ≡ now)
same_looked None now = tt
same_looked (Some f) now = refl

tick_new : (s : State) (now : ℤ) → IsSound s → IsNew (common_with s.common (Tick now) (looked_at now s.common.force))
tick_new s now is =
    let known : List Known = s.common.known in
    let p : Presented = looked_at now s.common.force in
    record {
      place = is.place;
      stands = same_stand known p is.place is.stands;
      starts = starts_stay known p is.place is.stands (filter (is_new known) (periods_of p)) is.starts;
      follows = same_follows s.common.force.following now (availability_start_of s.common.opened) is.follows;
      looked = same_looked s.common.force.following now;
      alike = is.alike ∙ sym is.opened;
      few = is.few;
      timed = λ at section track. subst (λ (q : Presented). AreTimed (listed_at q section track)) (sym (twice s.common.force at now))
          (is.timed at section track);
      own = λ section track. is.timed now section track;
    }

module _ (few : PresentedAreFew) (followed : PresentedAreFollowed) where
  pub forced : (s : State) (u : Update) (p : Presented) → IsSound s → IsAllowed s u p → IsNew (common_with s.common u p)
  forced s (Refresh mpd now) p is allowed =
      let u : Update = Refresh mpd now in
      mpd_new few followed (common_with s.common u p) mpd
      (later_in_force (alone s is) u p (taken_alone s is u p allowed allowed.forced) (none_in_force s is))
      allowed.forced (follows_as s is followed mpd now p allowed.forced allowed.mpd)
  forced s (Reset mpd now) p is allowed =
      let u : Update = Reset mpd now in
      mpd_new few followed (common_with s.common u p) mpd
      (later_in_force (alone s is) u p (taken_alone s is u p allowed allowed.forced) (none_in_force s is))
      allowed.forced (follows_as s is followed mpd now p allowed.forced allowed.mpd)
  forced s (Tick now) p is allowed =
      let same : looked_at now s.common.force ≡ p = let made = allowed.forced in cc in
      subst (λ (q : Presented). IsNew (common_with s.common (Tick now) q)) same (tick_new s now is)

-- ---- what a presentation in force lists stands in order

listed_pass : (window : Window) (o : Option Content)
    → All (λ x. is_listed window x ≡ true) (option_map_or (λ content. listed_in window content.runs) o [])
listed_pass window None = All-nil (λ x. is_listed window x ≡ true)
listed_pass window (Some content) = filter_passes (is_listed window) (expansion content.runs window)

-- it has ended, unless a static MPD lists it
ended_by : (o : Option Following) (now own : ℤ) (start : ℕ) (end : Time) → IfSome o (λ f. f.instant ≡ now)
    → IfSome o (λ f. f.availability_start ≡ own) → is_until (option_map_or (λ f. window_at f start) o whole_window).until end ≡ true
    → is_none o ≡ false → IsAtMost end (nanoseconds ((now -ℤ own) -ℤ pos start))
ended_by None now own start end looked follows until followed = absurd (cc)
ended_by (Some f) now own start end looked follows until followed =
    rw (looked, follows) at (at_most-true end (nanoseconds ((f.instant -ℤ f.availability_start) -ℤ pos start)) until)

module _ (c : Common) (new : IsNew c) where
  rising : (t : ℕ) → HasRisingPeriods (numbering_of c) c.force t
  rising t = record {
    places = λ r q less within. omega (
      arith,
      less,
      place_in c.known c.force new.place new.stands r (omega
          (arith, less, within)),
      place_in c.known c.force new.place new.stands q within,
    );
    last = λ r. (new.own r t).0;
    rise = λ r. (new.own r t).1;
  }

  pub order : (t : ℕ) → InOrder None (listed_of (numbering_of c) c.force t)
  order t = periods_are_listed_in_order (numbering_of c) c.force t (rising t)

  pub listed : (t : ℕ) → All (IsSegmentOf c) (listed_of (numbering_of c) c.force t)
  listed t = listed_have (IsSegmentOf c) (numbering_of c) c.force t (λ r content less at. λ j d within.
      let x : Timing = get_or (listed_at c.force r t) j d in
      let pass : is_listed (window_of c.force r) x ≡ true = listed_pass (window_of c.force r) (content_at c.force r t) j d within in
      let parts = and_parts _ _ pass in
      record {
        starts = ap (λ n. option_map (λ (k : Known). k.start) (slice_get c.known n)) (place_in c.known c.force new.place new.stands r less)
            ∙ start_known c.known c.force new.place new.stands new.starts r less;
        section = omega arith;
        listed = (and_parts _ _ parts.0).0;
        ended = λ followed. ended_by c.force.following c.instant (availability_start_of c.opened)
            (start_of c.force r) x.end new.looked new.follows parts.1 followed;
      })

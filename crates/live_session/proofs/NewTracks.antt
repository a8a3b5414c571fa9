-- What is new of an update: its Periods, and the segments that its maker is to make.
use Rattle.live_judge.specs.declared.coming.Coming.TheVariants as comes
use Rattle.std.proofs.Common.{◌≡◌, ℕ, zero, suc, ◌+◌, ◌-◌, ◌<◌, ◌≤◌, ℤ, true, false, List, [], ◌∷◌, ◌++◌, map, length, drop, None, refl}
use Rattle.std.proofs.Common.{sym, ◌∙◌, ap, arith, length-drop, length-append, zero-add, ◌==◌, pos, Some, inl, inr, ◌&&◌, cond, get_or, All}
use Rattle.std.proofs.{Common.{Option, subst}, lemmas.List.{length-map, map-append, drop_all, append-nil, nil_from_length}}
use Rattle.std.proofs.{lemmas.Option.{slice_get_past, slice_get-map}, lemmas.Bool.{eq-eqb, cases_Bool}, lemmas.Bool.Decides.nat_tests}
use Rattle.std.proofs.lemmas.List.Elements.{All-head, filter_passes, All-nil}
use Rattle.std.specs.{Prelude.{filter, is_none, slice_get, unwrap_or, IfSome, option_map}, List.range_with_len}
use Rattle.presentation.specs.Presented.{Presented}
use Rattle.live_meaning.specs.{Segments.{id_at, Segment, behind, is_later, place_of}, Updates.{mpd_of, is_reset}, Known.{Known, ids_of}}
use Rattle.live_meaning.specs.{Known.{is_new, known_at, known_with, periods_of}, Refusals.{ids_in, Step, extent_of, joint_told}}
use Rattle.live_meaning.specs.{Refusals.step_behind, States.{new_count, new_of, Track}, Histories.{numbering_of, Common}}
use Rattle.live_meaning.proofs.{Accepted.id_there, Histories.told_none, Orders.{IsNumbered, behind_have, listed_numbered}}
use Rattle.live_judge.specs.{declared.coming.Next.Next, declared.coming.Coming.Coming, declared.standing.Standing.Standing, Coming.Comes}
use Rattle.live_judge.specs.{Coming.{IsNext, p_of, update_of, c_of, coming_of, t_of, IsJoined}, Known.StandsAt}
use Rattle.live_judge.specs.{declared.track.LiveTrack.LiveTrack, declared.track_next.TrackNext.TrackNext, Shown.{track_shown, common_shown}}
use Rattle.live_judge.specs.Sound.{IsSoundTrack, IsPaired}
use Rattle.live_judge.proofs.{Places.{known_before, same_stand, place_there}, Joints.{step_at, steps_each}, Firsts.{rest_at, none_at}}
use Rattle.live_session.specs.{Changes.{new_in_all, resets_with, AreNewOf, shown_in}, New.{joins, shown_by}, declared.maker.Maker.Maker}
use Rattle.live_session.specs.{Growth.{track_grown, tracks_grown}, Making.{AreMakeable, IsMakerFor}, Written.IsDated}
use Rattle.exact_time.specs.Time.{Time, before}
use Rattle.timeline.specs.Faults.{is_apart}
use Rattle.presentation.proofs.Grids.{All-at}
use Rattle.circular_buffer.proofs.Places.{slice_get-some}
use Rattle.followed.specs.Durations.{Last}
use Rattle.live_session.proofs.{Addresses.{all_by, none_urls}, Refusing.some_as}

pub ends : (known : List Known) (p : Presented) (place : ℕ) → StandsAt (ids_of known) (ids_in p) place
    → length known ≡ place + length p.sections
ends known p place is =
    let behind = ap (λ (xs : List (List ℕ)). length xs) is.behind in
    let ids = length-map known (λ (k : Known). k.id) in
    omega (arith, is.within, length-drop place (ids_of known), length-map p.sections (λ section. section.id))

module _ (known : List Known) (p : Presented) (place : ℕ) (is : StandsAt (ids_of (known_with known p)) (ids_in p) place) where
  abbrev more : List Known
  more = filter (is_new known) (periods_of p)

  is_new_at : (s : ℕ) → s < length p.sections → is_new known (known_at p s) ≡ is_none (slice_get known (place + s))
  is_new_at s less =
      let both = subst (λ ids. StandsAt ids (ids_in p) place) (map-append (λ (k : Known). k.id) known more) is in
      ap is_none (known_before known (ids_of more) (ids_in p) place s (id_at p s) both (id_there p.sections s less))

  all_new : (a n : ℕ) → a + n ≤ length p.sections → length known ≤ place + a
      → filter (is_new known) (map (known_at p) (range_with_len a n)) ≡ map (known_at p) (range_with_len a n)
  all_new a zero within past = refl
  all_new a (suc n) within past =
      let here : is_new known (known_at p a) ≡ true = is_new_at a (omega arith) ∙ ap is_none (slice_get_past known (place + a) past) in
      rw here (ap (λ (ks : List Known). known_at p a ∷ ks) (all_new (a + 1) n (omega arith) (omega arith)))

  new_from : (k a n : ℕ) → a + n ≤ length p.sections → k ≤ n → length known ≡ place + a + k
      → filter (is_new known) (map (known_at p) (range_with_len a n)) ≡ map (known_at p) (range_with_len (a + k) (n - k))
  new_from zero a n within fits end =
      let same : a + zero ≡ a = omega arith in
      let all : n - zero ≡ n = omega arith in
      rw (same, all) (all_new a n within (omega (arith, end)))
  new_from (suc k) a zero within fits end = absurd (omega arith)
  new_from (suc k) a (suc n) within fits end =
      let here : is_new known (known_at p a) ≡ false = is_new_at a (omega arith)
      ∙ ap is_none (slice_get-some known (place + a) (omega (arith, end))).1 in
      let same : a + 1 + k ≡ a + suc k = omega arith in
      let left : n - k ≡ suc n - suc k = omega arith in
      rw (here, new_from k (a + 1) n (omega arith) (omega arith) (omega (arith, end)), same, left) refl

  -- those behind the known ones
  pub new_are : place ≤ length known
      → more ≡ map (known_at p) (range_with_len (length known - place) (length p.sections - (length known - place)))
  new_are within =
      let end = ends (known_with known p) p place is in
      let grown = length-append known more in
      new_from (length known - place) 0 (length p.sections) (omega arith) (omega (arith, end, grown)) (omega (arith, within))
      ∙ ap (λ i. map (known_at p) (range_with_len i (length p.sections - (length known - place)))) (zero-add (length known - place))

-- ---- of an update

module _ (n : Next) (is : IsNext n) where
  abbrev known : List Known
  known = (n.standing.now).known

  abbrev first : ℕ
  first = length known - n.place

  -- with those that were never seen
  pub known_are : (new : List Known) → new ≡ map (known_at n.force.now) (range_with_len first (length (n.force.now).sections - first))
      → known ++ new ≡ known_with known (p_of n)
  known_are new are = ap (λ (ks : List Known). known ++ ks) (are ∙ sym (new_are known (p_of n) n.place is.stands is.within))

  -- an instant alone brings none
  pub seen : n.force.now ≡ unwrap_or (n.standing.now).newest (n.standing.now).opened → first ≡ length (n.force.now).sections
  seen same =
      let s = n.standing.now in
      let now : StandsAt (ids_of known)
      (ids_in (p_of n)) s.place = subst (λ (q : Presented). StandsAt (ids_of known) (ids_in q) s.place) (sym same) is.live.stands in
      let again = ends (known_with known (p_of n)) (p_of n) s.place (same_stand known (p_of n) s.place now) in
      let first = ends known (p_of n) s.place now in
      omega (arith, is.within, ends (known_with known (p_of n)) (p_of n) n.place is.stands)

pub comes_same : (s : Standing) (coming : Coming) (force : Presented) (now at : ℤ) → Comes s coming force now
    → mpd_of (update_of coming at) ≡ None → force ≡ unwrap_or s.newest s.opened
comes_same s comes.Tick force now at same none = same
comes_same s coming force now at made none = absurd (cc)

module _ (n : Next) where
  -- nothing is new of the tracks before a place
  abbrev pub IsNoneUntil : ℕ → Type 0
  IsNoneUntil t = new_in_all n ≡ new_count (coming_of n) t (map track_shown (drop t n.tracks.now))

  pub count_at : (l : TrackNext) (t count : ℕ) → l.next.now ≡ n → l.index ≡ t → count ≡ length (new_of (c_of l) l.index (t_of l))
      → slice_get n.tracks.now t ≡ Some l.track.now → IsNoneUntil t
      → new_in_all n ≡ count + new_count (coming_of n) (t + 1) (map track_shown (drop (t + 1) n.tracks.now))
  count_at l t count next index is at before =
      let own : count ≡ length (new_of (coming_of n) t (track_shown l.track.now)) = rw (← next, ← index) is in
      rw own (before ∙ ap (λ (xs : List LiveTrack). new_count (coming_of n) t (map track_shown xs))
      (rest_at (λ i x. []) n.tracks.now t l.track.now at))

  pub none_left : (t : ℕ) → length n.tracks.now ≤ t → IsNoneUntil t → new_in_all n ≡ 0
  none_left t least before =
      before ∙ ap (λ (xs : List LiveTrack). new_count (coming_of n) t (map track_shown xs)) (drop_all t n.tracks.now least)

-- ---- resets

pub resets_at : (coming : Coming) (now : ℤ) (resets : ℕ)
    → resets_with resets (update_of coming (pos 0)) ≡ resets_with resets (update_of coming now)
resets_at comes.Tick now resets = refl
resets_at coming now resets = refl

resets_rise : (coming : Coming) (now : ℤ) (resets : ℕ) → resets ≤ resets_with resets (update_of coming now)
resets_rise comes.Tick now resets = omega arith
resets_rise coming now resets = omega arith

pub resets_most : (coming : Coming) (resets : ℕ) → resets_with resets (update_of coming (pos 0)) ≤ resets + 1
resets_most comes.Tick resets = omega arith
resets_most coming resets = omega arith

joined_by : (t : ℕ) (last : Option Last) (xs : List Segment) → step_behind t last xs ≡ [] → joins last xs
joined_by t None xs none = tt
joined_by t (Some l) [] none = tt
joined_by t (Some l) (x ∷ xs) none = λ same.
    rw (eq-eqb x.section l.section same) at (told_none (x.section == l.section && is_apart
    (Some l.end) (extent_of x)) (Step t l.end x.start) none)

-- ---- behind a reset all lie in later sections

above : (l : Last) (xs : List Segment) → All (λ (x : Segment). l.section < x.section) xs → joins (Some l) xs
above l [] all = tt
above l (x ∷ xs) all = λ same. absurd (omega (arith, All-head (λ (y : Segment). l.section < y.section) x xs all, same))

later_place : (last : Last) (place p : ℕ) (end : Time) → is_later last place p end ≡ true → place ≤ p
later_place last place p end is = grind (arith, nat_tests)

reset_joins : (last : Option Last) (place former resets : ℕ) (xs : List Segment) → IfSome last (λ l. l.section ≤ place + former)
    → resets ≡ former + 1
    → All (IsNumbered resets) xs → joins last (behind last place xs)
reset_joins None place former resets xs low more numbered = tt
reset_joins (Some l) place former resets xs low more numbered =
    let own = behind_have (IsNumbered resets) (Some l) place xs numbered in
    let later = filter_passes (λ (x : Segment). is_later l place x.value.place x.end) xs in
    above l (behind (Some l) place xs) (λ j d within.
    let x : Segment = get_or (behind (Some l) place xs) j d in
    omega (arith, more, low, own j d within, later_place l place x.value.place x.end (later j d within)))

-- ---- of an update

module _ (n : Next) (is : IsNext n) (t : ℕ) (x : LiveTrack) (at : slice_get n.tracks.now t ≡ Some x) where
  pub sound_there : IsSoundTrack (common_shown n.standing.now) (track_shown x)
  sound_there = All-at (IsSoundTrack (common_shown n.standing.now)) (map track_shown n.tracks.now) t (track_shown x) is.live.sound.tracks
      (slice_get-map track_shown n.tracks.now t ∙ ap (option_map track_shown) at)

  abbrev former : ℕ
  former = (n.standing.now).resets

  pub joined : IsJoined n → joins (track_shown x).last (new_of (coming_of n) t (track_shown x))
  joined none = elim (cases_Bool (is_reset (update_of n.coming n.now))) [
    | inl turned ↦
        let more : (coming_of n).resets ≡ former + 1 = ap (λ b. cond b (former + 1) former) turned in
        reset_joins (track_shown x).last (track_shown x).place former _ _ sound_there.section more
        (listed_numbered (numbering_of (coming_of n)) (p_of n) t)
    | inr other ↦
        let steps = subst (λ b. joint_told b (coming_of n) (map track_shown n.tracks.now) ≡ []) other none in
        joined_by t (track_shown x).last (new_of (coming_of n) t (track_shown x))
        (none_at (step_at (coming_of n)) n.tracks.now t x at (sym (steps_each (coming_of n) 0 n.tracks.now) ∙ steps))
  ]

same_grown : (c : Common) (t : ℕ) (track : Track) → new_of c t track ≡ [] → track_grown c t track ≡ track
same_grown c t track nothing = rw nothing (rw append-nil refl)

none_grown : (c : Common) (t : ℕ) (tracks : List Track) → new_count c t tracks ≡ 0 → tracks ≡ tracks_grown c t tracks
none_grown c t [] none = refl
none_grown c t (track ∷ tracks) none =
    rw (same_grown c t track (nil_from_length (new_of c t track) (omega arith)), ← none_grown c (t + 1) tracks (omega arith)) refl

module _ (n : Next) (is : IsNext n) where
  pub places : (s : ℕ) → s < length (p_of n).sections → place_of (ids_of (coming_of n).known) (id_at (p_of n) s) ≡ n.place + s
  places s less =
      place_there (ids_of (coming_of n).known) (ids_in (p_of n)) n.place s (id_at (p_of n) s) is.stands (id_there (p_of n).sections s less)

  pub none_made : (before : ℕ) → new_in_all n ≡ 0 → AreNewOf n [] before before
  none_made before none = record {
    made = record {
      grown_is = none_grown (coming_of n) 0 (shown_in n) none;
      urls = none_urls (coming_of n) n.place places 0 (shown_in n) none;
      numbered = sym none;
      dates = All-nil (All IsDated);
      counted = omega (arith, none);
    };
    many = omega arith;
    none = λ _. refl;
  }

  pub makeable : (m : Maker) → IsMakerFor (coming_of n) m → IsJoined n → AreMakeable m n.tracks.now
  makeable m for none t x at =
      let sound = sound_there n is t x at in
      record {
        paired = (All-at IsPaired n.tracks.now t x is.live.paired at).paired;
        begun = record {
          begun = sound.begun;
          numbered = some_as (track_shown x).last (λ l. l.section ≤ (track_shown x).place + (n.standing.now).resets)
              (λ l. l.section ≤ (track_shown x).place + m.resets)
              (λ l low. omega (arith, low, resets_rise n.coming n.now (n.standing.now).resets, for.resets)) sound.section;
        };
        near = subst (λ (xs : List Segment). joins (track_shown x).last xs)
            (all_by (coming_of n) (shown_by m) m.resets m.availability_start m.place for.force for.resets for.start for.places t
            (track_shown x))
            (joined n is t x at none);
      }

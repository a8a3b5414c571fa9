-- The printed durations of what is new in a section.
use Rattle.std.proofs.Common.{◌≡◌, ℕ, zero, suc, ◌+◌, ◌-◌, ◌<◌, ◌≤◌, ◌==◌, ◌&&◌, cond, Bool, true, false, List, [], ◌∷◌, length, map}
use Rattle.std.proofs.{Common.{Option, Some, refl, sym, ◌∙◌, ap, subst, inl, inr, arith}, lemmas.Bool.{cases_Bool, cases_lt, eq-eqb}}
use Rattle.std.proofs.{lemmas.Bool.ne_eqb, lemmas.List.Elements.filter_agree, lemmas.Option.same_Some}
use Rattle.std.specs.{Prelude.{All, filter, slice_get}, Option.option_map_or}
use Rattle.exact_time.specs.{Time.{IsAtMost, before, difference}, Tick.time_of, Floor.floor_in, Rounding.rounding_behind}
use Rattle.exact_time.proofs.Floors.{floor_in-difference_self}
use Rattle.timeline.specs.{Expansions.Timing, Faults.is_apart, Steady.{ArePaced, IsWithinLimits}}
use Rattle.presentation.specs.{declared.parts.Content.Content, declared.segments.Behind.Behind, Kept.{ArePacedBehind, durations_behind}}
use Rattle.presentation.specs.{Presented.{listed_at, start_of}, Printing.{FollowsNear, extent_of, later_than}}
use Rattle.presentation.proofs.GoingOn.{paced_there}
use Rattle.followed.specs.Durations.{Last, durations, told_behind}
use Rattle.live_meaning.specs.{Updates.{is_reset, unit_of}, Segments.{Numbering, is_later, segment_with}, Histories.numbering_of}
use Rattle.live_meaning.specs.{States.new_of, Refusals.{Step, joint_told, step_behind}}
use Rattle.live_meaning.proofs.Histories.{told_none}
use Rattle.live_judge.specs.{declared.track.LastKept.LastKept, declared.track_next.TrackNext.TrackNext, Coming.{IsJoined, IsTrackNext}}
use Rattle.live_judge.specs.{Coming.{c_of, coming_of, p_of, t_of, update_of}, New.{IsFirstNew, durations_in}, Shown.{common_shown, last_of}}
use Rattle.live_judge.specs.{Shown.track_shown, Sound.IsSoundTrack}
use Rattle.live_judge.proofs.{Contents.{here_by_end, none_before, sound_there}, Counts.{IsNoneNew, first_new_is, news_in, none_more}}
use Rattle.live_judge.proofs.{Counts.{none_yet, times_in}, Firsts.none_at, Joints.{step_at, step_told, steps_each}, New.{AreMade, new_made}}

-- ---- of one section

module _ (u : ℕ) (n : Numbering) (place start : ℕ) where
  going_on : (content : Content) (l : Last) → (l.section == place + n.resets) ≡ true → (xs : List Timing)
      → durations (told_behind u (Some l) (map (segment_with n place start content) xs))
      ≡ durations_behind (rounding_behind l.first u l.end) xs
  going_on content l same [] = refl
  going_on content l same (x ∷ xs) =
      rw same (ap (λ (ds : List ℕ). (floor_in u (difference x.end l.first) - floor_in u (difference l.end l.first)) ∷ ds)
      (going_on content (record l { end = x.end }) same xs))

  begun_anew : (content : Content) (l : Last) → (l.section == place + n.resets) ≡ false → (x : Timing) (xs : List Timing)
      → durations (told_behind u (Some l) (map (segment_with n place start content) (x ∷ xs)))
      ≡ durations_behind (rounding_behind x.start u x.start) (x ∷ xs)
  begun_anew content l other x xs =
      let none : floor_in u (difference x.start x.start) ≡ 0 = floor_in-difference_self u x.start in
      let one : floor_in u (difference x.end x.start) ≡ floor_in u (difference x.end x.start) - floor_in u (difference x.start x.start) =
      omega (arith, none) in
      let rest = going_on content (record {
        section = place + n.resets;
        first = x.start;
        end =
            x.end;
      }) (eq-eqb _ (place + n.resets) refl) xs in
      rw other (ap (λ (ds : List ℕ). floor_in u (difference x.end x.start) ∷ ds) rest
      ∙ ap (λ d. d ∷ durations_behind (rounding_behind x.start u x.end) xs) one)

  of_another : (content : Content) (l : Last) → (l.section == place + n.resets) ≡ false → (xs : List Timing) (x : Timing)
      → slice_get xs 0 ≡ Some x → durations (told_behind u (Some l) (map (segment_with n place start content) xs))
      ≡ durations_behind (rounding_behind x.start u x.start) xs
  of_another content l other [] x at = absurd (cc)
  of_another content l other (y ∷ xs) x at =
      begun_anew content l other y xs ∙ ap (λ (t : Timing). durations_behind (rounding_behind t.start u t.start) (y ∷ xs))
      (same_Some y x at)

-- ---- behind the last segment

module _ (l : TrackNext) (is : IsTrackNext l) (s : ℕ) (within : s < length (p_of l.next.now).sections)
    (k : LastKept) (last : (t_of l).last ≡ Some (last_of k)) (at : (t_of l).place ≡ k.place) where
  abbrev resets : ℕ
  resets = ((l.next.now).standing.now).resets

  abbrev number : ℕ
  number = (l.next.now).place + s + (coming_of l.next.now).resets

  sound : IsSoundTrack (common_shown (l.next.now).standing.now) (t_of l)
  sound = sound_there l is

  pub begun : IsAtMost (time_of k.begin) (time_of k.end)
  begun = rw last at sound.begun

  low : k.section ≤ k.place + resets
  low = let there = rw last at sound.section in omega (arith, there, at)

  as_last : durations_in (c_of l) (l.next.now).place (t_of l) l.index s
      ≡ durations (told_behind (unit_of (c_of l).terms) (Some (last_of k)) (news_in l s))
  as_last = ap (λ (o : Option Last). durations (told_behind (unit_of (c_of l).terms) o (news_in l s))) last

  made : AreMade (numbering_of (c_of l)) (p_of l.next.now) (l.next.now).place (t_of l) l.index s
  made = new_made (numbering_of (c_of l)) (p_of l.next.now) (l.next.now).place (t_of l) l.index s

  pub durations_same : (unit n : ℕ) → unit ≡ unit_of (c_of l).terms → n ≡ number → n ≡ k.section
      → durations_behind (rounding_behind (time_of k.begin) unit (time_of k.end)) (times_in l s)
      ≡ durations_in (c_of l) (l.next.now).place (t_of l) l.index s
  durations_same unit n same is_number here =
      let one : (k.section == number) ≡ true = eq-eqb _ _ (sym here ∙ is_number) in
      rw (same, as_last) (elim made [
        | inl none ↦ rw (none.1, none.0) refl
        | inr is ↦ rw is.1 (sym (going_on (unit_of (c_of l).terms) (numbering_of (c_of l)) ((l.next.now).place + s)
            (start_of (p_of l.next.now) s) is.0 (last_of k) one (times_in l s)))
      ])

  pub durations_anew : (unit n : ℕ) (x : Timing) → unit ≡ unit_of (c_of l).terms → n ≡ number → (n ≡ k.section → ⊥)
      → slice_get (times_in l s) 0 ≡ Some x
      → durations_behind (rounding_behind x.start unit x.start) (times_in l s) ≡ durations_in (c_of l) (l.next.now).place (t_of l) l.index s
  durations_anew unit n x same is_number other first =
      let differs : (k.section == number) ≡ false = ne_eqb _ _ (λ e. other (is_number ∙ sym e)) in
      rw (same, as_last) (elim made [
        | inl none ↦ absurd (let never = subst (λ (xs : List Timing). slice_get xs 0 ≡ Some x) none.0 first in cc)
        | inr is ↦ rw is.1 (sym (of_another (unit_of (c_of l).terms) (numbering_of (c_of l)) ((l.next.now).place + s)
            (start_of (p_of l.next.now) s) is.0 (last_of k) differs (times_in l s) x first))
      ])

  module _ (x : Timing) (first : slice_get (times_in l s) 0 ≡ Some x) (limits : IsWithinLimits x) (n : ℕ) (is_number : n ≡ number)
      (here : n ≡ k.section) where
    not_before : k.place ≤ (l.next.now).place + s
    not_before = elim (cases_lt ((l.next.now).place + s) k.place) [
      | inl less ↦ absurd (let never = rw (none_before l s k last at less) at first in cc)
      | inr not_less ↦ not_less
    ]

    abbrev begins_anew : Bool
    begins_anew = is_reset (update_of (l.next.now).coming (l.next.now).now)

    -- a reset would have begun another section
    goes_on : begins_anew ≡ false
    goes_on = elim (cases_Bool begins_anew) [
      | inl turned ↦
          let more : (coming_of l.next.now).resets ≡ resets + 1 = ap (λ b. cond b (resets + 1) resets) turned in
          absurd (omega (arith, more, not_before, low, is_number, here))
      | inr other ↦ other
    ]

    there : (l.next.now).place + s ≡ k.place
    there =
        let same : (coming_of l.next.now).resets ≡ resets = ap (λ b. cond b (resets + 1) resets) goes_on in
        omega (arith, same, not_before, low, is_number, here)

    none_until : (i : ℕ) → i ≤ s → IsNoneNew l i
    none_until zero le = none_yet l is
    none_until (suc i) le =
        let next : i + 1 ≡ suc i = omega arith in
        subst (IsNoneNew l) next (none_more l i (omega (arith, le, within)) (none_before l i k last at (omega (arith, le, there)))
        (none_until i (omega (arith, le))))

    first_is : IsFirstNew n x (new_of (c_of l) l.index (t_of l))
    first_is = first_new_is l s n x within (none_until s (omega arith)) first limits is_number

    none_stepped : IsJoined l.next.now → step_behind l.index (Some (last_of k)) (new_of (c_of l) l.index (t_of l)) ≡ []
    none_stepped joined =
        let steps = subst (λ b. joint_told b (coming_of l.next.now) (map track_shown (l.next.now).tracks.now) ≡ []) goes_on joined in
        ap (λ (o : Option Last). step_behind l.index o (new_of (c_of l) l.index (t_of l))) (sym last)
        ∙ none_at (step_at (coming_of l.next.now)) (l.next.now).tracks.now l.index l.track.now is.there
        (sym (steps_each (coming_of l.next.now) 0 (l.next.now).tracks.now) ∙ steps)

    near : IsJoined l.next.now → is_apart (Some (time_of k.end)) (extent_of x) ≡ false
    near joined =
        let none = sym (step_told l.index (last_of k) (new_of (c_of l) l.index (t_of l)) n x first_is) ∙ none_stepped joined in
        let same : (n == k.section) ≡ true = ap (λ m. m == k.section) here ∙ eq-eqb _ k.section refl in
        sym (ap (λ b. b && is_apart (Some (time_of k.end)) (extent_of x)) same)
        ∙ told_none (n == k.section && is_apart (Some (time_of k.end)) (extent_of x)) (Step l.index (time_of k.end) x.start) none

    abbrev own : Behind
    own = record { first = k.begin; former = k.end }

    later : times_in l s ≡ later_than (time_of k.end) (listed_at (p_of l.next.now) s l.index)
    later =
        ap (λ (o : Option Last). filter (λ y. option_map_or (λ last. is_later last (t_of l).place ((l.next.now).place + s) y.end) o true)
        (listed_at (p_of l.next.now) s l.index)) last
        ∙ filter_agree (λ y. is_later (last_of k) (t_of l).place ((l.next.now).place + s) y.end) (λ y. before (time_of k.end) y.end)
        (λ y. here_by_end (last_of k) ((l.next.now).place + s) (t_of l).place (there ∙ sym at) y.end)
        (listed_at (p_of l.next.now) s l.index)

    follows : IsJoined l.next.now → FollowsNear (time_of k.end) (times_in l s)
    follows joined = rw first (near joined)

    pub paced_same : IsJoined l.next.now → (unit : ℕ) (walk : List Timing) → walk ≡ times_in l s → ArePaced walk → All IsWithinLimits walk
        → ArePacedBehind walk (rounding_behind (time_of k.begin) unit (time_of k.end))
    paced_same joined unit walk same paced all =
        paced_there (Some own) unit (listed_at (p_of l.next.now) s l.index) walk (rounding_behind (time_of k.begin) unit (time_of k.end))
        (same ∙ later) refl paced all
        (record { begun = begun; near = subst (FollowsNear (time_of k.end)) later (follows joined) })

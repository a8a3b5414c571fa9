-- The state that a first MPD leaves is sound.
use Rattle.std.proofs.Common.{◌≡◌, ℕ, ℤ, pos, Bool, List, [], ◌∷◌, map, length, Option, Some, None, Result, Ok, Err}
use Rattle.std.proofs.Common.{refl, sym, ◌∙◌, ap, subst}
use Rattle.std.proofs.lemmas.Simd.{map-map}
use Rattle.std.proofs.{Common.arith, lemmas.List.length-map, lemmas.List.Elements.All-map, lemmas.List.FromFn.length-range_with_len}
use Rattle.std.specs.{Prelude.{All, IfSome, filter, unwrap_or}, Option.option_map_or}
use Rattle.mpd_levels.specs.{declared.addressing.SegmentRow.SegmentRow, Segments.Segments}
use Rattle.mpd_rules.specs.{Held.Held, Laws.{HaveIdsOnce, are_once}, Typed.period_with, Views.{segments_mpd, segments_told}}
use Rattle.mpd_rules.specs.declared.rows.PeriodRow.{PeriodRow}
use Rattle.presentation.specs.{declared.fault.PresentationFault.PresentationFault, Counting.tracks_of, Presented.{Following, Presented}}
use Rattle.mpd_presentation.specs.{PresentedLaws.{PresentedAreFew, PresentedAreFollowed, SectionsArePeriods}, Told.presented_of}
use Rattle.followed.specs.Durations.{last_behind}
use Rattle.live_meaning.specs.{Updates.{Terms, Values, unit_of}, Segments.{Segment, listed_of, place_behind, segments_of}}
use Rattle.live_meaning.specs.{Known.{Known, ids_of, is_new}, Histories.{Common, begun_common, begun_past, begun_with, numbering_of}}
use Rattle.live_meaning.specs.States.{State, shown, track_of}
use Rattle.live_meaning.specs.{Refusals.{Refusal, begun_by as begun_state, begun_of, first_refusal_of, ids_in}}
use Rattle.live_meaning.proofs.{Histories.{IsFirst, first_allowed, told-segments}, Accepted.{IsInForce, first_in_force, known_grown}}
use Rattle.live_meaning.proofs.Orders.{listed_numbered}
use Rattle.live_judge.specs.{Changed.first_place, FirstStates.{FirstPeriodsStand, FirstStatesAreSound}, Known.StandsAt}
use Rattle.live_judge.specs.Sound.{IsSegmentOf, IsSound, IsSoundTrack}
use Rattle.live_judge.proofs.{Places.{first_within, stand_by}, Forced.{IsNew, mpd_new, listed, order}}
use Rattle.live_judge.proofs.Reaching.{IsReached, none_reached, reached, sound_reached}

pub all_new : (ks : List Known) → filter (is_new []) ks ≡ ks
all_new [] = refl
all_new (k ∷ ks) = ap (λ (xs : List Known). k ∷ xs) (all_new ks)

-- ---- the first state

starts_own : (o : Option Following) → IfSome o (λ f. f.availability_start ≡ option_map_or (λ f. f.availability_start) o (pos 0))
starts_own None = tt
starts_own (Some f) = refl

at_first : (o : Option Refusal) (terms : Terms) (mpd : Values) (now : ℤ) (r : Result Presented PresentationFault) (s : State)
    → begun_state terms mpd now o r ≡ Ok s
    → (p : Presented) × (o ≡ None) × (r ≡ Ok p) × (shown (begun_with (begun_common terms mpd now p)) ≡ s)
at_first (Some refusal) terms mpd now r s is = absurd (cc)
at_first None terms mpd now (Err fault) s is = absurd (cc)
at_first None terms mpd now (Ok p) s is = (p, refl, refl, cc)

with_first : (P : State → Type 0) (terms : Terms) (mpd : Values) (now : ℤ) (s : State) → begun_of terms mpd now ≡ Ok s
    → ((p : Presented) → IsFirst terms mpd now p → P (shown (begun_with (begun_common terms mpd now p)))) → P s
unfolding begun_of
with_first P terms mpd now s is first =
    let at = at_first (first_refusal_of terms mpd now) terms mpd now (presented_of mpd terms.url (Some now)) s is in
    subst P at.3 (first at.0 (first_allowed terms mpd now at.0 at.1 at.2))

module _ (sections : SectionsArePeriods) where
  module _ (terms : Terms) (mpd : Values) (now : ℤ) (once : HaveIdsOnce mpd.facts.live mpd.periods) (p : Presented)
      (first : IsFirst terms mpd now p) where
    abbrev c : Common
    c = begun_common terms mpd now p

    force : IsInForce p c.known p
    force = first_in_force sections terms mpd now p once first

    pub stands : StandsAt (ids_of c.known) (ids_in p) 0
    stands =
        let first : first_place [] (ids_in p) ≡ 0 = omega (arith, first_within [] (ids_in p)) in
        rw first at (stand_by [] p (rw known_grown at force.last))

    many : length p.tracks ≡ length (shown (begun_with c)).tracks
    many = sym (length-map (map (begun_past c) (tracks_of p)) _ ∙ length-map (tracks_of p) _ ∙ length-range_with_len 0 (length p.tracks))

    module _ (few : PresentedAreFew) (followed : PresentedAreFollowed) where
      new : IsNew c
      new = mpd_new few followed c mpd force first.made (starts_own p.following)

      sound_track : (t : ℕ) → IsSoundTrack c (track_of (unit_of terms) (begun_past c t))
      sound_track t =
          let all : List Segment = listed_of (numbering_of c) p t in
          let same : segments_of (track_of (unit_of terms) (begun_past c t)).kept ≡ all = told-segments (unit_of terms) None all in
          sound_reached c (track_of (unit_of terms) (begun_past c t)) (subst (All (IsSegmentOf c)) (sym same) (listed c new t))
          (subst (IsReached 0 (last_behind None all) (place_behind 0 all)) (sym same)
          (reached 0 None 0 [] all (none_reached 0) (order c new t) (listed_numbered (numbering_of c) p t) tt))

      pub sound : IsSound (shown (begun_with c))
      sound = record {
        place = new.place;
        stands = new.stands;
        starts = new.starts;
        follows = new.follows;
        opened = many;
        alike = many;
        few = new.few;
        timed = new.timed;
        tracks = All-map (IsSoundTrack c) (track_of (unit_of terms)) (map (begun_past c) (tracks_of p))
            (All-map (λ past. IsSoundTrack c (track_of (unit_of terms) past)) (begun_past c) (tracks_of p) (λ j d within. sound_track _));
      }

  pub first_states_are_sound : PresentedAreFew → PresentedAreFollowed → FirstStatesAreSound
  first_states_are_sound few followed terms mpd now s once is = with_first IsSound terms mpd now s is
      (λ p first. sound terms mpd now once p first few followed)

  pub first_periods_stand : FirstPeriodsStand
  first_periods_stand terms mpd now s once is =
      with_first (λ s. StandsAt (ids_of s.common.known) (ids_in s.common.force) 0) terms mpd now s is
      (λ p first. stands terms mpd now once p first)

-- what is shown of an MPD keeps the ids of its Periods
pub shown_once : (held : Held SegmentRow) (live : Bool) → live ≡ held.values.facts.live → HaveIdsOnce live held.values.periods
    → HaveIdsOnce (segments_mpd held).facts.live (segments_mpd held).periods
shown_once held live same once dynamic =
    ap are_once (map-map (λ (period : PeriodRow (Option Segments)). unwrap_or period.id []) (period_with segments_told) held.values.periods)
    ∙ once (same ∙ dynamic)

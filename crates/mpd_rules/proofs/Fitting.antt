-- The values of an MPD in which none is refused are within their bounds.
use Rattle.std.proofs.Common.{◌≡◌, ℕ, ◌^◌, ◌&&◌, not, Bool, true, false, List, [], ◌∷◌, Option, Some, None, All, refl, ◌∙◌, ap, inl, inr}
use Rattle.std.proofs.{Common.{arith, nat_lt, ◌==◌}, lemmas.Bool.cases_Bool, lemmas.Bool.Decides.nat_tests}
use Rattle.std.proofs.lemmas.List.Elements.{All-cons, All-nil, All-head, All-tail}
use Rattle.std.specs.{Prelude.{codes, filter, is_some, is_ok, Err, option_and_then}, Option.option_map_or, Result.result_ok}
use Rattle.bridge_io.proofs.Texts.{same_bytes}
use Rattle.iso_time.specs.Duration.{DurationParts, answer_of, duration_of, months_of, nanos_of, parts_of}
use Rattle.iso_time.specs.declared.duration.DurationFault.TheVariants.{Shape}
use Rattle.mpd_values.specs.{declared.blank.Blank.TheVariants.Space, Blanks.trimmed}
use Rattle.mpd_values.specs.FrameRates.{frame_rate_between, frame_rate_of, is_read_rate}
use Rattle.mpd_values.specs.Numbers.{is_between, kept_if, number_between, number_of}
use Rattle.mpd_tree.specs.{Trees.Element, Views.side_by_side}
use Rattle.mpd_profile.specs.{declared.listed.Addressing.Addressing, declared.listed.Listed.Listed}
use Rattle.mpd_profile.specs.declared.listed.Listed.TheVariants.{Mpd, Period, AdaptationSet, Representation}
use Rattle.mpd_profile.specs.{declared.value.Value.TheVariants.{Duration, FrameRate, Number}, Elements.{child_of, value_of}}
use Rattle.mpd_profile.specs.{Heads.{is_named, value_named}, LeftOut.is_left_out, Sound.{IsSound, IsSoundChild, parent_of}, Values.is_value}
use Rattle.mpd_profile.specs.Visits.{Parent}
use Rattle.mpd_profile.proofs.Sound.{sound_children}
use Rattle.mpd_levels.proofs.Fitting.{level_fits}
use Rattle.mpd_rules.specs.{Fits.{FitsCommon, FitsDuration, FitsMpd, FitsNumber, FitsPeriod, FitsSet, FitsTrack}, Kept.is_kept}
use Rattle.mpd_rules.specs.Readings.{duration_in, duration_within, nanos_unless_months}

-- ---- one value

kept_whole : {X : Type 0} (test : X → Bool) (o : Option X) → is_some (kept_if test o) ≡ true → kept_if test o ≡ o
kept_whole test None some = refl
kept_whole test (Some x) some = elim (cases_Bool (test x)) [ inl passes ↦ rw passes refl | inr fails ↦ absurd (cc (rw fails at some)) ]

from_zero : (least bound n : ℕ) → is_between least bound n ≡ true → is_between 0 bound n ≡ true
from_zero least bound n is = grind (arith, nat_tests)

number_whole : (least bound : ℕ) (o : Option ℕ) → is_some (kept_if (is_between least bound) o) ≡ true → kept_if (is_between 0 bound) o ≡ o
number_whole least bound None some = refl
number_whole least bound (Some n) some = elim (cases_Bool (is_between least bound n)) [
  | inl passes ↦ rw (from_zero least bound n passes) refl
  | inr fails ↦ absurd (cc (rw fails at some))
]

numbers_fit : (least bound : ℕ) (value : Option (List ℕ)) → ((text : List ℕ) → value ≡ Some text
    → is_value (Number least bound) text ≡ true)
    → option_and_then (number_between 0 bound) value ≡ option_and_then number_of value
unfolding is_value
numbers_fit least bound None fits = refl
numbers_fit least bound (Some text) fits = number_whole least bound (number_of text) (fits text refl)

rates_fit : (value : Option (List ℕ)) → ((text : List ℕ) → value ≡ Some text → is_value FrameRate text ≡ true)
    → option_and_then frame_rate_between value ≡ option_and_then frame_rate_of value
unfolding is_value
rates_fit None fits = refl
rates_fit (Some text) fits = kept_whole is_read_rate (frame_rate_of text) (fits text refl)

duration_whole : (parts : Option DurationParts) → is_ok (option_map_or answer_of parts (Err Shape)) ≡ true
    → result_ok (option_map_or answer_of parts (Err Shape)) ≡ option_and_then nanos_unless_months parts
duration_whole None ok = absurd (cc ok)
duration_whole (Some p) ok = elim (cases_Bool (months_of p == 0)) [
  | inl none ↦ elim (cases_Bool (nat_lt (nanos_of p) (10 ^ 19))) [
    | inl within ↦ rw (none, within) refl
    | inr beyond ↦ absurd (cc (rw (none, beyond) at ok))
  ]
  | inr some ↦ absurd (cc (rw some at ok))
]

durations_fit : (value : Option (List ℕ)) → ((text : List ℕ) → value ≡ Some text → is_value Duration text ≡ true)
    → option_and_then duration_within value ≡ option_and_then duration_in value
unfolding is_value duration_of
durations_fit None fits = refl
durations_fit (Some text) fits = duration_whole (parts_of (trimmed Space text)) (fits text refl)

-- ---- children that are kept

both : (a b : Bool) → (a && not b) ≡ true → (a ≡ true) × (b ≡ false)
both true true is = absurd (cc is)
both true false is = (refl, refl)
both false b is = absurd (cc is)

module _ (addressing : Addressing) (parent : Parent) (l : Listed) (name : List ℕ) (Holds : Element → Type 0)
    (is : child_of addressing parent.listed name ≡ Some l)
    (holds : (c : Element) → IsSound addressing parent.dynamic l c → Holds c) where
  abbrev SoundHere : Element → Type 0
  SoundHere c = IsSoundChild addressing parent c

  child_holds : (c : Element) → SoundHere c → is_kept l name parent.head c ≡ true → Holds c
  child_holds c sound kept =
      let parts = both (is_named name c) (is_left_out parent.head (Some l) c) kept in
      let same : c.head.name ≡ name = same_bytes c.head.name name parts.0 in
      holds c (sound l (ap (child_of addressing parent.listed) same ∙ is) parts.1).sound

  pub kept_hold : (cs : List Element) → All SoundHere cs → All Holds (filter (is_kept l name parent.head) cs)
  kept_hold [] all = All-nil Holds
  kept_hold (c ∷ cs) all = elim (cases_Bool (is_kept l name parent.head c)) [
    | inl kept ↦ rw kept (All-cons Holds c (filter (is_kept l name parent.head) cs) (child_holds c (All-head SoundHere c cs all) kept)
        (kept_hold cs (All-tail SoundHere c cs all)))
    | inr other ↦ rw other (kept_hold cs (All-tail SoundHere c cs all))
  ]

-- ---- the elements

module _ (addressing : Addressing) (dynamic : Bool) where
  number_fits : (l : Listed) (e : Element) (name : List ℕ) (least : ℕ) → value_of addressing l name ≡ Some (Number least (2 ^ 32))
      → IsSound addressing dynamic l e → FitsNumber name e.head
  number_fits l e name least is sound = numbers_fit least (2 ^ 32) (value_named name e.head)
      (λ text there. sound.values name text (Number least (2 ^ 32)) is there)

  duration_fits : (l : Listed) (e : Element) (name : List ℕ) → value_of addressing l name ≡ Some Duration → IsSound addressing dynamic l e
      → FitsDuration name e.head
  duration_fits l e name is sound = durations_fit (value_named name e.head) (λ text there. sound.values name text Duration is there)

  common_fits : (l : Listed) (e : Element) → value_of addressing l (codes "width") ≡ Some (Number 0 (2 ^ 32))
      → value_of addressing l (codes "height") ≡ Some (Number 0 (2 ^ 32))
      → value_of addressing l (codes "frameRate") ≡ Some FrameRate → IsSound addressing dynamic l e → FitsCommon e.head
  common_fits l e width height rate sound = record {
    width = number_fits l e (codes "width") 0 width sound;
    height = number_fits l e (codes "height") 0 height sound;
    frame_rate = rates_fit (value_named (codes "frameRate") e.head)
        (λ text there. sound.values (codes "frameRate") text FrameRate rate there);
  }

  track_fits : (e : Element) → IsSound addressing dynamic Representation e → FitsTrack e
  track_fits e sound = record {
    bandwidth = number_fits Representation e (codes "bandwidth") 1 refl sound;
    common = common_fits Representation e refl refl refl sound;
    level = level_fits addressing dynamic Representation e refl refl sound;
  }

  set_fits : (e : Element) → IsSound addressing dynamic AdaptationSet e → FitsSet e
  set_fits e sound = record {
    common = common_fits AdaptationSet e refl refl refl sound;
    level = level_fits addressing dynamic AdaptationSet e refl refl sound;
    tracks = kept_hold addressing (parent_of AdaptationSet dynamic e) Representation (codes "Representation") FitsTrack refl track_fits
        (side_by_side e.children) (sound_children addressing dynamic AdaptationSet e sound);
  }

  period_fits : (e : Element) → IsSound addressing dynamic Period e → FitsPeriod e
  period_fits e sound = record {
    start = duration_fits Period e (codes "start") refl sound;
    duration = duration_fits Period e (codes "duration") refl sound;
    level = level_fits addressing dynamic Period e refl refl sound;
    sets = kept_hold addressing (parent_of Period dynamic e) AdaptationSet (codes "AdaptationSet") FitsSet refl set_fits
        (side_by_side e.children) (sound_children addressing dynamic Period e sound);
  }

  pub mpd_fits : (e : Element) → IsSound addressing dynamic Mpd e → FitsMpd e
  mpd_fits e sound = record {
    total = duration_fits Mpd e (codes "mediaPresentationDuration") refl sound;
    depth = duration_fits Mpd e (codes "timeShiftBufferDepth") refl sound;
    max_segment = duration_fits Mpd e (codes "maxSegmentDuration") refl sound;
    periods = kept_hold addressing (parent_of Mpd dynamic e) Period (codes "Period") FitsPeriod refl period_fits (side_by_side e.children)
        (sound_children addressing dynamic Mpd e sound);
  }

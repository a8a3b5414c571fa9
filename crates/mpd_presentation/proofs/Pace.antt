-- The listed segments of an MPD's presentation begin at a time, from which on the ends don't fall and lie near one another.
use Rattle.std.proofs.Common.{◌≡◌, ℕ, zero, suc, ◌+◌, ◌*◌, ◌<◌, ◌==◌, ◌&&◌, Bool, true, false, not, List, [], ◌∷◌, drop, length, All}
use Rattle.std.proofs.Common.{Option, None, Some, IfSome, unwrap_or, ℤ, Ok, refl, sym, ◌∙◌, ap, subst, inl, inr, arith}
use Rattle.std.proofs.{lemmas.Bool.cases_Bool, lemmas.Bool.Decides.nat_tests, lemmas.List.take_all}
use Rattle.std.specs.{Option.option_map_or, List.{AllByRecursion, list_any}}
use Rattle.exact_time.specs.{Time.{Time, IsAtMost, IsTime, before, nanoseconds, seconds}, Rounding.{AreNear, IsRising}}
use Rattle.exact_time.proofs.TimeOrder.{at_most-false, before-from, before-true, before_then_at_most, not_at_most-from}
use Rattle.mpd_levels.specs.Segments.{Segments}
use Rattle.mpd_rules.specs.Typed.{TypedMpd}
use Rattle.timeline.specs.{declared.entry.End.End, declared.entry.Scale.Scale}
use Rattle.timeline.specs.declared.fault.TimeFault.TheVariants.{ListLength, NoEnd, Range, TimeWithoutTimeline, ZeroDuration}
use Rattle.timeline.specs.{declared.names.Names.Names, declared.window.Window.Window}
use Rattle.timeline.specs.Expansions.{Closed, Endless, Extent, Member, SegmentTimeline, Short, Timing, ended_by, extents, numbered}
use Rattle.timeline.specs.Expansions.{repeat_of, repeated}
use Rattle.timeline.specs.Faults.{duration_fault, ends_open, extents_break, fault_if, is_unbounded, lacks_end, members_by, segment_fault}
use Rattle.timeline.specs.{Faults.timeline_fault, Limits.{breaks_limits, too_long}}
use Rattle.timeline.specs.Listed.{IsReached, expansion, instant_of, is_after, is_listed, is_until, listed}
use Rattle.timeline.specs.{Names.{asks_for_time, count_of}, SegmentTimelines.{timeline_from, timeline_of_duration, timeline_of_entries}}
use Rattle.timeline.specs.{Steady.{AreLasting, ArePaced, IsSteady, Lasts, LastsTicks}, Timelines.expansion_of_timeline}
use Rattle.mpd_entries.specs.declared.entry.SEntry.{SEntry}
use Rattle.timeline.proofs.{ExpansionsRise.{durations_row, entries_last, row_lasting, row_steady}, Judged.not_long, KeptLemmas.all_append}
use Rattle.timeline.proofs.{NumberedLemmas.drop-numbered, OpenEnds.{no_fault, no_faults, unless}, Paced.listed_paced}
use Rattle.timeline.proofs.Rises.{LastsTicks-repeat, Lasts-from_ticks, steady_from}
use Rattle.presentation.specs.declared.parts.Content.{Content}
use Rattle.presentation.specs.{Presented.{Presented, content_at, listed_at, listed_in, looked_at, window_of}, Printing.{IsCounted, ends_of}}
use Rattle.mpd_presentation.specs.{PresentedLaws.{AreAlwaysInPace, IsInPace, PresentedAreInPace}, Scales.scale_of}
use Rattle.mpd_presentation.specs.Told.{presented_of, timeline_by}
use Rattle.presentation.proofs.Grids.{All-at}
use Rattle.mpd_presentation.proofs.{Ending.all_have, FromMpd.is_told}

-- ---- what is listed of segments in pace

and_true : (a b d : Bool) → (a && b && d) ≡ true → (a ≡ true) × (b ≡ true) × (d ≡ true)
and_true true true true is = (refl, refl, refl)
and_true true true false is = absurd (cc)
and_true true false d is = absurd (cc)
and_true false b d is = absurd (cc)

module _ (window : Window) where
  -- an end that isn't too early to be listed
  abbrev IsLate : Time → Type 0
  IsLate end = (before (seconds 0) end ≡ true) × (is_after window.after end ≡ true)

  after_later : (after : Option ℤ) (former end : Time) → IsTime end → IsAtMost former end → is_after after former ≡ true
      → is_after after end ≡ true
  after_later None former end is_end rises is = refl
  after_later (Some z) former end is_end rises is = before-from (nanoseconds z) end
      (before_then_at_most (nanoseconds z) former end is_end (before-true (nanoseconds z) former is) rises)

  late_later : (former end : Time) → IsTime end → IsAtMost former end → IsLate former → IsLate end
  late_later former end is_end rises late = (
    before-from (seconds 0) end
        (before_then_at_most (seconds 0) former end is_end
        (before-true (seconds 0) former late.0) rises),
    after_later window.after former end is_end rises late.1,
  )

  until_later : (until : Option ℤ) (former end : Time) → IsTime end → IsAtMost former end → is_until until former ≡ false
      → is_until until end ≡ false
  until_later None former end is_end rises gone = absurd (cc)
  until_later (Some z) former end is_end rises gone =
      not_at_most-from end (nanoseconds z)
      (before_then_at_most (nanoseconds z) former end is_end (at_most-false former (nanoseconds z) gone) rises)

  none_listed : (former : Time) (xs : List Timing) → is_until window.until former ≡ false → IsRising former (ends_of xs)
      → listed window xs ≡ []
  none_listed former [] gone rising = refl
  none_listed former (x ∷ xs) gone rising =
      let here = until_later window.until former x.end rising.0 rising.1 gone in
      let rest = none_listed x.end xs here rising.2 in
      elim (cases_Bool (is_listed window x)) [
        | inl is ↦ absurd (let not_here =
            (and_true (before (seconds 0) x.end) (is_after window.after x.end) (is_until window.until x.end) is).2 in cc)
        | inr not_listed ↦ rw not_listed rest
      ]

  later_paced : (former : Time) (xs : List Timing) → IsLate former → IsRising former (ends_of xs) → AreNear former (ends_of xs)
      → IsRising former (ends_of (listed window xs)) × AreNear former (ends_of (listed window xs))
  later_paced former [] late rising near = (tt, tt)
  later_paced former (x ∷ xs) late rising near =
      let here = late_later former x.end rising.0 rising.1 late in
      elim (cases_Bool (is_until window.until x.end)) [
        | inl is ↦ (let rest = later_paced x.end xs here rising.2 near.1 in rw (here.0, here.1, is)
            ((rising.0, rising.1, rest.0), (near.0, rest.1)))
        | inr gone ↦ (let rest = none_listed x.end xs gone rising.2 in rw (here.0, here.1, gone, rest) (tt, tt))
      ]

  abbrev IsBegun : Timing → Type 0
  IsBegun x = IsTime x.start

  pub listed_in_pace : (xs : List Timing) → AllByRecursion IsBegun xs → ((k : ℕ) → ArePaced (drop k xs)) → IsInPace (listed window xs)
  listed_in_pace [] begun paced = (omega arith, tt)
  listed_in_pace (x ∷ xs) begun paced = elim (cases_Bool (is_listed window x)) [
    | inl is ↦
        let first = paced 0 in
        let late = and_true (before (seconds 0) x.end) (is_after window.after x.end) (is_until window.until x.end) is in
        let rest = later_paced x.end xs (late.0, late.1) first.0.2 first.1.1 in
        rw is (begun.0, ((first.0.0, first.0.1, rest.0), (first.1.0, rest.1)))
    | inr gone ↦ rw gone (listed_in_pace xs begun.1 (λ k. paced (suc k)))
  ]

-- ---- the members of a timeline

-- each lasts some time, and none is too long or apart from the one before it
pub record IsSound (members : List Member) : Type 0 where
  pub lasting : AreLasting members
  pub steady : IsSteady members

-- what each extent that lasts has, each listed or not
module _ (Has : Time → Time → Type 0) (each : (x : Extent) → Lasts x → Has x.start x.end) where
  abbrev HasExtent : Extent → Type 0
  HasExtent x = Has x.start x.end

  repeated_have : (count : ℕ) (x : Extent) → LastsTicks x → AllByRecursion HasExtent (repeated count x)
  unfolding repeated
  repeated_have zero x is = tt
  repeated_have (suc count) x is = (each x (Lasts-from_ticks x is), repeated_have count (repeat_of x) (LastsTicks-repeat x is))

  extents_have : (instant : Time) (members : List Member) → AreLasting members → AllByRecursion HasExtent (extents instant members)
  extents_have instant [] lasting = tt
  extents_have instant (Closed x ∷ later) lasting = (each x lasting.0, extents_have instant later lasting.1)
  extents_have instant (Short x ∷ later) lasting = extents_have instant later lasting
  extents_have instant (Endless x ∷ later) lasting =
      all_append HasExtent (repeated (ended_by instant x) x) (extents instant later) (repeated_have (ended_by instant x) x lasting.0)
      (extents_have instant later (subst AreLasting (sym lasting.1) tt))

  numbered_have : (n : ℕ) (xs : List Extent) → AllByRecursion HasExtent xs
      → AllByRecursion (λ (x : Timing). Has x.start x.end) (numbered n xs)
  numbered_have n [] all = tt
  numbered_have n (x ∷ xs) all = (all.0, numbered_have (n + 1) xs all.1)

  pub expansion_has : (timeline : SegmentTimeline) (window : Window) → AreLasting timeline.members
      → AllByRecursion (λ (x : Timing). Has x.start x.end) (expansion timeline window)
  expansion_has timeline window lasting =
      numbered_have timeline.first_number (extents (instant_of window) timeline.members)
      (extents_have (instant_of window) timeline.members lasting)

module _ (timeline : SegmentTimeline) (window : Window) (sound : IsSound timeline.members) (reached : IsReached timeline window) where
  paced_from : (k : ℕ) → ArePaced (drop k (expansion timeline window))
  paced_from k =
      let xs = extents (instant_of window) timeline.members in
      let n = timeline.first_number in
      let whole = take_all (length (drop k xs)) (drop k xs) (omega arith) in
      subst ArePaced (ap (numbered (n + k)) whole ∙ sym (drop-numbered k n xs))
      (listed_paced timeline window xs (n + k) (length (drop k xs)) k refl sound.lasting sound.steady reached)

  pub in_pace : IsInPace (listed_in window timeline)
  in_pace = listed_in_pace window (expansion timeline window)
      (expansion_has (λ start end. IsTime start) (λ x lasts. lasts.start_is) timeline window sound.lasting) paced_from

-- ---- a timeline of which nothing is refused

not_zero : (d : ℕ) → (d == 0) ≡ false → 0 < d
not_zero d is = grind (arith, nat_tests)

module _ (scale : Scale) (end : End) (live : Bool) (names : Names) (timeline : SegmentTimeline) where
  pub entries_sound : (entries : List SEntry) → timeline_of_entries entries end live scale names ≡ Ok timeline → IsSound timeline.members
  entries_sound entries is =
      let members = expansion_of_timeline scale end entries in
      let made = no_fault (timeline_fault entries end live scale names) (timeline_from scale scale.offset names members) timeline is in
      let zeros = no_faults (fault_if (list_any (λ (s : SEntry). s.d == 0) entries) ZeroDuration) _ made.0 in
      let ends = no_faults (fault_if (not live && is_unbounded end && ends_open entries) NoEnd) _ zeros.1 in
      let steps = no_faults (segment_fault (breaks_limits scale.ticks scale.offset) None members) _ ends.1 in
      let same = ap (λ (t : SegmentTimeline). t.members) made.1 in
      record {
        lasting = subst AreLasting same (entries_last scale end 0 entries (unless _ ZeroDuration zeros.0));
        steady = subst IsSteady same
            (steady_from (breaks_limits scale.ticks scale.offset) too_long
            (λ x kept. not_long scale.ticks scale.offset x kept) None members steps.0);
      }

  pub duration_sound : (duration : ℕ) → timeline_of_duration duration end live scale names ≡ Ok timeline → IsSound timeline.members
  duration_sound duration is =
      let count = count_of names in
      let members = members_by scale.ticks end duration count in
      let made = no_fault (duration_fault duration end live scale names) (timeline_from scale 0 names members) timeline is in
      let times = no_faults (fault_if (asks_for_time names) TimeWithoutTimeline) _ made.0 in
      let zeros = no_faults (fault_if (duration == 0) ZeroDuration) _ times.1 in
      let ends = no_faults (fault_if (lacks_end live end count) NoEnd) _ zeros.1 in
      let ranges = no_faults (fault_if (extents_break (breaks_limits scale.ticks 0) members) Range) _ ends.1 in
      let same = ap (λ (t : SegmentTimeline). t.members) made.1 in
      let row = durations_row scale.ticks duration scale.positive (not_zero duration (unless _ ZeroDuration zeros.0)) end count
      (unless _ ListLength ranges.1) in
      record {
        lasting = subst AreLasting same (row_lasting members row);
        steady = subst IsSteady same
            (row_steady (breaks_limits scale.ticks 0) (λ x kept. not_long scale.ticks 0 x kept) members row (unless _ Range ranges.0));
      }

timed_sound : (live : Bool) (timeline : Option (List SEntry)) (s : Segments) (end : End) (names : Names) (runs : SegmentTimeline)
    → timeline_by timeline s live end names ≡ Ok runs → IsSound runs.members
timed_sound live (Some timeline) s end names runs is = entries_sound (scale_of s) end live names runs timeline is
timed_sound live None s end names runs is = duration_sound (scale_of s) end live names runs (unwrap_or s.duration 0) is

-- ---- those of a presentation

abbrev IsSoundIn : Content → Type 0
IsSoundIn content = IsSound content.runs.members

module _ (q : Presented) (s t : ℕ) (sound : All IsSoundIn q.contents) where
  paced_in : (o : Option Content) → content_at q s t ≡ o → IfSome o (λ content. IsReached content.runs (window_of q s))
      → IsInPace (option_map_or (λ content. listed_in (window_of q s) content.runs) o [])
  paced_in None is reached = (omega arith, tt)
  paced_in (Some content) is reached = in_pace content.runs (window_of q s)
      (All-at IsSoundIn q.contents (s * length q.tracks + t) content sound is) reached

  all_in_pace : IsCounted q s t → IsInPace (listed_at q s t)
  all_in_pace counted = paced_in (content_at q s t) refl counted

module _ (mpd : TypedMpd (Option Segments)) (url : List ℕ) (now : Option ℤ) (p : Presented) (made : presented_of mpd url now ≡ Ok p) where
  contents_sound : All IsSoundIn p.contents
  contents_sound =
      let told = is_told mpd url now p made in
      subst (λ (q : Presented). All IsSoundIn q.contents) told.is
      (all_have (λ runs. IsSound runs.members) mpd.facts.live (timed_sound mpd.facts.live) url mpd.periods told.tolds told.told)

pub presented_are_in_pace : PresentedAreInPace
presented_are_in_pace mpd url now p made s t counted = all_in_pace p s t (contents_sound mpd url now p made) counted

pub are_always_in_pace : AreAlwaysInPace
are_always_in_pace mpd url now p made instant s t counted = all_in_pace (looked_at instant p) s t
    (contents_sound mpd url now p made) counted

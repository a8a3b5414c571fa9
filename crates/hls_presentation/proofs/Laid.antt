-- What is presented of playlists lies in rows.
use Rattle.std.proofs.Common.{◌≡◌, ℕ, zero, cond, suc, ◌+◌, ◌-◌, ◌/◌, ◌<◌, ◌≤◌, ℤ, pos, ◌*ℤ◌, Bool, true, false, List, [], ◌∷◌, map, length}
use Rattle.std.proofs.{Common.{All, Option, Some, None, Ok, refl, sym, ◌∙◌, ap, subst, arith}, Math.Nat.{div-mul-le_self, zero-div}}
use Rattle.std.proofs.{lemmas.Bool.or_parts, lemmas.Bool.Decides.nat_tests, lemmas.Int.ints, lemmas.List.Elements.{All-nil, All-cons}}
use Rattle.std.proofs.lemmas.Nat.{le-div}
use Rattle.std.specs.{Prelude.int_le, List.list_any}
use Rattle.bridge_io.proofs.AndThen.{steps_of}
use Rattle.exact_time.specs.Time.{in_units}
use Rattle.timeline.specs.{declared.fault.TimeFault.TimeFault, declared.fault.TimeFault.TheVariants.ZeroDuration, Expansions.Closed}
use Rattle.timeline.specs.{Expansions.SegmentTimeline, Faults.{fault_if, lasts_no_time, or_fault}, SegmentTimelines.unless_fault}
use Rattle.hls_media.specs.declared.media.MediaSegment.{MediaSegment}
use Rattle.presentation.specs.{declared.parts.Content.Content, Presented.of_parts}
use Rattle.hls_presentation.specs.{Laid.{IsLaidOut, IsRow, PresentedAreLaidOut, in_row, sections_by}, Presenting.{content_of, content_with}}
use Rattle.hls_presentation.specs.Presenting.{contents_of, extent_at, extents_from, fault_of_extents, flattened, hls_presented_of}
use Rattle.hls_presentation.specs.Presenting.{initialization_of, nanos_by_tick, parts_of, parts_with, presented_from, presented_of_kept}
use Rattle.hls_presentation.specs.{Presenting.{runs_of, section_at, sections_from, ticks_by_second, timeline_with}, Sections.groups_in}
use Rattle.hls_presentation.specs.{Sections.{row_length, rows_of, whole_faults}, Tracks.{kept, left_out, sources, track_faults}}
use Rattle.hls_presentation.proofs.{Came.{timed_ok, unless_ok}, Faults.given, Gathering.all_gathered}

-- ---- segments in a row

abbrev durations_from : (nanos start : ℕ) → List MediaSegment → List ℕ
durations_from nanos start [] = []
durations_from nanos start (s ∷ rest) = ((start + s.duration) / nanos - start / nanos) ∷ durations_from nanos (start + s.duration) rest

later : (n a d : ℕ) → 0 < n → a / n ≤ (a + d) / n
later n a d some = le-div (a / n) (a + d) n some (omega (arith, div-mul-le_self a n))

module _ (nanos : ℕ) (some : 0 < nanos) where
  rows : (start : ℕ) (group : List MediaSegment) → extents_from nanos start group
      ≡ in_row (ticks_by_second nanos) (start / nanos) (durations_from nanos start group)
  rows start [] = refl
  rows start (s ∷ rest) =
      let end = start + s.duration in
      let same : start / nanos + (end / nanos - start / nanos) ≡ end / nanos = omega (arith, later nanos start s.duration some) in
      ap (λ xs. extent_at nanos start end ∷ xs) (rows end rest)
      ∙ ap (λ n. record { start = in_units (ticks_by_second nanos) (start / nanos); end = in_units (ticks_by_second nanos) n }
      ∷ in_row (ticks_by_second nanos) n (durations_from nanos end rest)) (sym same)

-- ---- each of which lasts some time

at_most_itself : (a : ℤ) → int_le a a ≡ true
at_most_itself a = grind (arith, ints, nat_tests)

lasting : (ticks from d : ℕ) → lasts_no_time (record { start = in_units ticks from; end = in_units ticks (from + d) }) ≡ false → 0 < d
lasting ticks from zero is =
    let none : from + 0 ≡ from = omega arith in
    absurd (let bad = rw (none, at_most_itself (pos from *ℤ pos ticks)) at is in cc)
lasting ticks from (suc d) is = omega arith

pub all_lasting : (ticks from : ℕ) (durations : List ℕ) → list_any lasts_no_time (in_row ticks from durations) ≡ false
    → All (λ d. 0 < d) durations
all_lasting ticks from [] is = All-nil _
all_lasting ticks from (d ∷ durations) is =
    let parts = or_parts _ _ is in
    All-cons (λ d. 0 < d) d durations (lasting ticks from d parts.0) (all_lasting ticks (from + d) durations parts.1)

-- ---- what is given has no fault

no_fault : (fault : Option TimeFault) (timeline runs : SegmentTimeline) → unless_fault fault timeline ≡ Ok runs → fault ≡ None
no_fault None timeline runs is = refl
no_fault (Some fault) timeline runs is = absurd (cc)

no_first : (b : Bool) (first : TimeFault) (next : Option TimeFault) → or_fault (fault_if b first) next ≡ None → b ≡ false
no_first true first next is = absurd (cc)
no_first false first next is = refl

pub many : (nanos start : ℕ) (group : List MediaSegment) → length (durations_from nanos start group) ≡ length group
many nanos start [] = refl
many nanos start (s ∷ rest) = ap suc (many nanos (start + s.duration) rest)

-- a row of as many segments as the group has
pub record IsRowOf (scale : ℕ) (group : List MediaSegment) (runs : SegmentTimeline) : Type 0 where
  pub row : IsRow scale runs
  pub many : length row.durations ≡ length group

pub row : (nanos : ℕ) → 0 < nanos → (group : List MediaSegment) (content : Content) → content_of nanos group ≡ Ok content
    → IsRowOf (ticks_by_second nanos) group content.runs
row nanos positive [] content is = absurd (cc)
row nanos positive (s ∷ rest) content is =
    let group = s ∷ rest in
    let ticks = ticks_by_second nanos in
    let one = steps_of (initialization_of group) _ content is in
    let two = steps_of (runs_of nanos group) _ content one.then in
    let ok = timed_ok _ two.value two.first in
    let xs = extents_from nanos 0 group in
    let fault = no_fault (fault_of_extents (parts_of group) xs) _ two.value ok in
    let whole : timeline_with ticks (parts_of group) xs ≡ two.value = unless_ok _ _ two.value ok in
    let same : content_with one.value two.value ≡ content = (let h = two.then in cc) in
    let zero : 0 / nanos ≡ 0 = zero-div nanos in
    let laid : xs ≡ in_row ticks 0 (durations_from nanos 0 group) = rows nanos positive 0 group
    ∙ ap (λ n. in_row ticks n (durations_from nanos 0 group)) zero in
    subst (λ (c : Content). IsRowOf ticks group c.runs) same (subst (IsRowOf ticks group) whole (record {
      row = record {
        durations = durations_from nanos 0 group;
        some = omega arith;
        lasting = all_lasting ticks 0 (durations_from nanos 0 group) (ap (list_any lasts_no_time) (sym laid)
            ∙ no_first _ ZeroDuration _ fault);
        members = ap (map Closed) laid;
        ticks = refl;
        origin = refl;
        offset = refl;
      };
      many = many nanos 0 group;
    }))

-- ---- sections

lengths : (place start : ℕ) (rows : List (List (List MediaSegment))) → sections_from place start rows
    ≡ sections_by place start (map row_length rows)
lengths place start [] = refl
lengths place start (row ∷ rows) = ap (λ sections. section_at place start (row_length row) ∷ sections)
    (lengths (place + 1) (start + row_length row) rows)

-- ---- the whole

pub positive : (b : Bool) → 0 < cond b 1000 1
positive true = omega arith
positive false = omega arith

pub presented_are_laid_out : PresentedAreLaidOut
unfolding hls_presented_of presented_of_kept presented_from
presented_are_laid_out tracks medias p is =
    let all = sources tracks medias in
    let ours = kept all in
    let rows = rows_of (map groups_in ours) in
    let nanos = nanos_by_tick ours in
    let from = given (whole_faults (map groups_in ours)) _ p (given (track_faults all) _ p is) in
    let s = steps_of (contents_of nanos rows) _ p from in
    let same : of_parts (parts_with ours (left_out all) rows s.value) ≡ p = (let h = s.then in cc) in
    subst IsLaidOut same (record {
      lengths = map row_length rows;
      sections = lengths 0 0 rows;
      ticks = ticks_by_second nanos;
      rows = all_gathered (content_of nanos) (λ (content : Content). IsRow (ticks_by_second nanos) content.runs)
          (λ group content is. (row nanos (positive _) group content is).row) (flattened rows) s.value s.first;
    })

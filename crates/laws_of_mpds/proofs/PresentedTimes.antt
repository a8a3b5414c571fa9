-- What a track has in a section, in ticks and in nanoseconds.
use Rattle.std.proofs.Common.{◌≡◌, ℕ, suc, ◌+◌, ◌-◌, ◌/◌, ◌%◌, inl, inr, Bool, true, false, List, [], ◌∷◌, map, slice_get, unwrap_or}
use Rattle.std.proofs.{Common.{All, Option, Some, None, Ok, refl, sym, ◌∙◌, ap, subst, arith}, Math.Nat.div-one, lemmas.Bool.or_parts}
use Rattle.std.proofs.{lemmas.Int.ints, lemmas.List.Elements.{All-head, All-tail}}
use Rattle.std.specs.List.{list_any}
use Rattle.bridge_io.proofs.AndThen.{steps_of}
use Rattle.exact_time.specs.Time.{difference, in_units}
use Rattle.timeline.specs.{declared.fault.TimeFault.TimeFault, declared.fault.TimeFault.TheVariants.ZeroDuration}
use Rattle.timeline.specs.{declared.names.Names.TheVariants.Addresses, Expansions.{SegmentTimeline, Timing, numbered}, Faults.fault_if}
use Rattle.timeline.specs.{Faults.{lasts_no_time, or_fault}, Listed.listed, SegmentTimelines.unless_fault}
use Rattle.url_parts.specs.declared.address.Part.{Part}
use Rattle.hls_media.specs.declared.media.MediaSegment.{MediaSegment}
use Rattle.hls_meaning.specs.Sections.{nanoseconds, no_part, part_of, timed}
use Rattle.meaning.specs.{Meanings.{Entry, Segment}, Same.{IsSameTime, Pairwise, SameSegment}}
use Rattle.presentation.specs.{declared.parts.Content.Content, Meanings.{entry_of, entry_with, part_meant, segment_of}, Presented.listed_in}
use Rattle.presentation.specs.Presented.{whole_window}
use Rattle.presentation.proofs.WholeWindow.{expanded, one_listed, part_at_place}
use Rattle.hls_presentation.specs.Presenting.{content_of, content_with, extents_from, fault_of_extents, initialization_in}
use Rattle.hls_presentation.specs.Presenting.{initialization_of, parts_of, runs_of, ticks_by_second, timeline_with}
use Rattle.hls_presentation.proofs.{Came.{timed_ok, unless_ok}, Spanned.IsUnit}

-- ---- an entry in ticks

abbrev pub ticked : (nanos start : ℕ) → List MediaSegment → List Segment
ticked nanos start [] = []
ticked nanos start (s ∷ rest) =
    record {
      part = part_of s;
      start = in_units (ticks_by_second nanos) (start / nanos);
      end = in_units (ticks_by_second nanos) ((start + s.duration) / nanos);
    }
    ∷ ticked nanos (start + s.duration) rest

abbrev pub entry_by : ℕ → List MediaSegment → Option Entry
entry_by nanos [] = None
entry_by nanos (s ∷ rest) = Some (record { initialization = unwrap_or s.map no_part; segments = ticked nanos 0 (s ∷ rest) })

-- ---- all segments are listed

all_listed : (nanos start number : ℕ) (group : List MediaSegment) → list_any lasts_no_time (extents_from nanos start group) ≡ false
    → listed whole_window (numbered number (extents_from nanos start group)) ≡ numbered number (extents_from nanos start group)
all_listed nanos start number [] is = refl
all_listed nanos start number (s ∷ rest) is =
    let parts = or_parts _ _ is in
    one_listed (ticks_by_second nanos) (start / nanos) ((start + s.duration) / nanos) number _ parts.0
    (all_listed nanos (start + s.duration) (number + 1) rest parts.1)

-- ---- what they are

segments_meant : (runs : SegmentTimeline) (parts : List Part) → runs.names ≡ Addresses parts → runs.first_number ≡ 1
    → (nanos k start : ℕ) (group : List MediaSegment)
    → ((j : ℕ) → slice_get parts (k + j) ≡ slice_get (map part_of group) j)
    → map (segment_of runs) (numbered (1 + k) (extents_from nanos start group)) ≡ ticked nanos start group
segments_meant runs parts named first nanos k start [] at = refl
segments_meant runs parts named first nanos k start (s ∷ rest) at =
    let end = start + s.duration in
    let from = in_units (ticks_by_second nanos) (start / nanos) in
    let to = in_units (ticks_by_second nanos) (end / nanos) in
    let x : Timing = record { start = from; end = to; number = 1 + k } in
    let place : x.number - runs.first_number ≡ k + 0 = omega (arith, first) in
    let part : part_meant runs x ≡ part_of s = part_at_place runs parts x (part_of s) named (ap (slice_get parts) place ∙ at 0) in
    let moved : (1 + k) + 1 ≡ 1 + (k + 1) = omega arith in
    ap (λ (q : Part). record { part = q; start = from; end = to } ∷ map (segment_of runs)
    (numbered ((1 + k) + 1) (extents_from nanos end rest))) part
    ∙ ap (λ n. record { part = part_of s; start = from; end = to } ∷ map (segment_of runs) (numbered n (extents_from nanos end rest))) moved
    ∙ ap (λ later. record { part = part_of s; start = from; end = to } ∷ later)
    (segments_meant runs parts named first nanos (k + 1) end rest (λ j. (let next : (k + 1) + j ≡ k + suc j = omega arith in
    ap (slice_get parts) next ∙ at (suc j))))

-- ---- what is given has no fault

no_fault : (fault : Option TimeFault) (timeline runs : SegmentTimeline) → unless_fault fault timeline ≡ Ok runs → fault ≡ None
no_fault None timeline runs is = refl
no_fault (Some fault) timeline runs is = absurd (cc)

no_first : (b : Bool) (first : TimeFault) (next : Option TimeFault) → or_fault (fault_if b first) next ≡ None → b ≡ false
no_first true first next is = absurd (cc)
no_first false first next is = refl

map_is : (map : Option Part) (part : Part) → initialization_in map ≡ Ok part → unwrap_or map no_part ≡ part
map_is None part is = absurd (cc)
map_is (Some one) part is = cc

entry_made : (initialization : Part) (runs : SegmentTimeline) (xs : List Timing) (segments : List Segment) (x : Segment)
    → map (segment_of runs) xs ≡ x ∷ segments
    → entry_with initialization runs xs ≡ Some (record { initialization = initialization; segments = x ∷ segments })
entry_made initialization runs [] segments x is = absurd (cc)
entry_made initialization runs (first ∷ xs) segments x is = ap (λ all. Some (record { initialization = initialization; segments = all })) is

pub content_entry : (nanos : ℕ) (group : List MediaSegment) (content : Content) → content_of nanos group ≡ Ok content
    → entry_of whole_window content ≡ entry_by nanos group
content_entry nanos [] content is = absurd (cc)
content_entry nanos (s ∷ rest) content is =
    let group = s ∷ rest in
    let one = steps_of (initialization_of group) _ content is in
    let two = steps_of (runs_of nanos group) _ content one.then in
    let ok = timed_ok _ two.value two.first in
    let xs = extents_from nanos 0 group in
    let runs = timeline_with (ticks_by_second nanos) (parts_of group) xs in
    let fault = no_fault (fault_of_extents (parts_of group) xs) _ two.value ok in
    let whole : runs ≡ two.value = unless_ok _ _ two.value ok in
    let same : content_with one.value two.value ≡ content = (let h = two.then in cc) in
    let lasting : list_any lasts_no_time xs ≡ false = no_first _ ZeroDuration _ fault in
    let shown : listed_in whole_window runs ≡ numbered 1 xs = ap (λ ys. listed whole_window (numbered 1 ys)) (expanded xs)
    ∙ all_listed nanos 0 1 group lasting in
    let segments : map (segment_of runs) (listed_in whole_window runs) ≡ ticked nanos 0 group =
    ap (map (segment_of runs)) shown ∙ segments_meant runs (parts_of group) refl refl nanos 0 0 group
    (λ j. (let plain : 0 + j ≡ j = omega arith in ap (slice_get (parts_of group)) plain)) in
    subst (λ (c : Content). entry_of whole_window c ≡ entry_by nanos group) same
    (subst (λ (r : SegmentTimeline). entry_of whole_window (content_with one.value r) ≡ entry_by nanos group) whole
    (entry_made one.value runs (listed_in whole_window runs) (ticked nanos (0 + s.duration) rest) _ segments
    ∙ ap (λ part. Some (record { initialization = part; segments = ticked nanos 0 group })) (sym (map_is s.map one.value one.first))))

-- ---- the same times

time_by : (nanos : ℕ) → IsUnit nanos → (end : ℕ) → (nanos ≡ 1000 → end % 1000 ≡ 0)
    → IsSameTime (difference (nanoseconds end) (nanoseconds 0)) (difference (in_units (ticks_by_second nanos) (end / nanos))
    (in_units (ticks_by_second nanos) (0 / nanos)))
time_by nanos (inl is) end whole =
    subst (λ n. IsSameTime (difference (nanoseconds end) (nanoseconds 0))
    (difference (in_units (ticks_by_second n) (end / n)) (in_units (ticks_by_second n) (0 / n)))) (sym is)
    (omega arith, (omega arith, (let one = div-one end in omega (arith, ints, one))))
time_by nanos (inr is) end whole =
    subst (λ n. IsSameTime (difference (nanoseconds end) (nanoseconds 0))
    (difference (in_units (ticks_by_second n) (end / n)) (in_units (ticks_by_second n) (0 / n)))) (sym is)
    (omega arith, (omega arith, (let none = whole is in omega (arith, ints, none))))

-- in microseconds each duration is a whole number of them
abbrev pub AreWhole : ℕ → List MediaSegment → Type 0
AreWhole nanos group = All (λ (s : MediaSegment). nanos ≡ 1000 → s.duration % 1000 ≡ 0) group

pub timed_same : (nanos : ℕ) → IsUnit nanos → (start : ℕ) (group : List MediaSegment) → (nanos ≡ 1000 → start % 1000 ≡ 0)
    → AreWhole nanos group
    → Pairwise (SameSegment IsSameTime (nanoseconds 0) (in_units (ticks_by_second nanos) (0 / nanos))) (timed start group)
    (ticked nanos start group)
timed_same nanos unit start [] whole all = tt
timed_same nanos unit start (s ∷ rest) whole all =
    let next : nanos ≡ 1000 → (start + s.duration) % 1000 ≡ 0 = λ is.
    (let one = whole is in let other = All-head (λ (s : MediaSegment). nanos ≡ 1000 → s.duration % 1000 ≡ 0) s rest all is in
    omega (arith, one, other)) in (
      record { part = refl; time = time_by nanos unit (start + s.duration) next },
      timed_same nanos unit (start + s.duration) rest next (All-tail (λ (s : MediaSegment). nanos ≡ 1000
          → s.duration % 1000 ≡ 0) s rest all),
    )

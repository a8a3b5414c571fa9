-- What a live MPD says of its runs means their segments.
use Rattle.timeline.specs.declared.names.Names.TheVariants as names
use Rattle.std.proofs.Common.{◌≡◌, ℕ, zero, suc, ◌+◌, ◌-◌, List, [], ◌∷◌, map, drop, slice_get, unwrap_or, All, Some}
use Rattle.std.proofs.{Common.{refl, sym, ◌∙◌, ap, ap₂, arith}, lemmas.List.length-map}
use Rattle.exact_time.specs.Time.{in_units}
use Rattle.url_parts.specs.declared.address.Part.{Part}
use Rattle.meaning.specs.Meanings.{Segment}
use Rattle.timeline.specs.Expansions.{Closed, SegmentTimeline, numbered}
use Rattle.presentation.specs.{declared.parts.Content.Content, Meanings.{part_meant}, Presented.whole_window}
use Rattle.presentation.specs.Meanings.{entry_of, entry_with as entry_by, segment_of as segment_meant}
use Rattle.mpd_presentation.specs.Meanings.{content_meant}
use Rattle.dash_writer.specs.{Live.{first_time, part_of}, declared.live.LivePeriod.LivePeriod, declared.live.LiveRun.LiveRun}
use Rattle.dash_writer.specs.declared.live.LiveSegment.{LiveSegment}
use Rattle.hls_follow.specs.Listed.{GoesOn, times_from}
use Rattle.laws_of_mpds.specs.{Contents.{IsPlainFrom, TimedContentsAreMeant}, Live.durations_in, Rows.in_row, Told.segments_told}
use Rattle.segment_forms.specs.declared.form.Form.{Form}
use Rattle.laws_of_mpds.proofs.Contents.{listed_from}
use Rattle.laws_of_jobs.specs.LiveLists.{ListMeans, entry_with, segment_of}
use Rattle.laws_of_jobs.proofs.Periods.{IsReadRun}

-- ---- a list as a content

abbrev content_of : LiveRun → Content
content_of run = record {
  initialization = run.initialization;
  runs = record {
    members = map Closed (in_row run.scale (first_time run.segments - unwrap_or run.offset 0) (durations_in run));
    ticks = run.scale;
    origin = 0;
    offset = 0;
    first_number = 1;
    names = names.Addresses (map part_of run.segments);
  };
}

abbrev plain : (run : LiveRun) → IsReadRun run → IsPlainFrom (first_time run.segments - unwrap_or run.offset 0) (content_of run)
plain run read = record {
  parts = map part_of run.segments;
  durations = durations_in run;
  named = refl;
  members = refl;
  paired = length-map run.segments (λ (segment : LiveSegment). segment.duration) ∙ sym (length-map run.segments part_of);
  positive = read.readable.some;
  lasting = read.lasting;
  initialization = read.readable.initialization;
  own = read.readable.parts;
}

-- ---- its segments

-- what stands behind a place
behind : {X : Type 0} (xs : List X) (k : ℕ) (x : X) (later : List X) → drop k xs ≡ x ∷ later
    → (slice_get xs k ≡ Some x) × (drop (suc k) xs ≡ later)
behind [] zero x later is = absurd (cc)
behind [] (suc k) x later is = absurd (cc)
behind (y ∷ ys) zero x later is = (let first : y ≡ x = cc in ap Some first, let rest : ys ≡ later = cc in rest)
behind (y ∷ ys) (suc k) x later is = behind ys k x later is

module _ (run : LiveRun) where
  segments_are : (tl : SegmentTimeline) (parts : List Part) (k n from at : ℕ) (segments : List LiveSegment)
      → tl.names ≡ names.Addresses parts → n ≡ tl.first_number + k → drop k parts ≡ map part_of segments
      → unwrap_or run.offset 0 + from ≡ at → map (λ (segment : LiveSegment). segment.time) segments ≡ times_from at segments
      → map (segment_meant tl) (numbered n (in_row run.scale from (map (λ (segment : LiveSegment). segment.duration) segments)))
      ≡ map (segment_of run) segments
  unfolding part_meant
  segments_are tl parts k n from at [] named is rest begins times = refl
  segments_are tl parts k n from at (s ∷ segments) named is rest begins times =
      let here : n - tl.first_number ≡ k = omega (arith, is) in
      let there = behind parts k (part_of s) (map part_of segments) rest in
      let time : s.time ≡ at = cc in
      let later : map (λ (segment : LiveSegment). segment.time) segments ≡ times_from (at + s.duration) segments = cc in
      let others = segments_are tl parts (suc k) (n + 1) (from + s.duration) (at + s.duration) segments named (omega (arith, is)) there.1
      (omega (arith, begins)) later in
      let first : from ≡ s.time - unwrap_or run.offset 0 = omega (arith, begins, time) in
      let last : from + s.duration ≡ s.time + s.duration - unwrap_or run.offset 0 = omega (arith, begins, time) in
      let own : Segment = record {
        part = part_of s;
        start = in_units run.scale from;
        end = in_units run.scale (from + s.duration);
      } in
      let moved : own ≡ segment_of run s = ap₂ (λ from to. record {
        part = part_of s;
        start = in_units run.scale from;
        end = in_units run.scale to;
      }) first last in
      rw (named, here, there.0) (ap (λ later. own ∷ later) others ∙ ap (λ first. first ∷ map (segment_of run) segments) moved)

  entry_is : (c : Content) (n from : ℕ) (segments : List LiveSegment) → c.initialization ≡ run.initialization
      → map (segment_meant c.runs) (numbered n (in_row run.scale from (map (λ (segment : LiveSegment). segment.duration) segments)))
      ≡ map (segment_of run) segments
      → entry_by c.initialization c.runs (numbered n (in_row run.scale from (map (λ (segment : LiveSegment). segment.duration) segments)))
      ≡ entry_with run segments
  entry_is c n from [] initialization same = refl
  entry_is c n from (s ∷ segments) initialization same =
      ap₂ (λ part segments. Some (record { initialization = part; segments = segments })) initialization same

-- ---- the law

pub list_means : (form : Form) → TimedContentsAreMeant → (run : LiveRun) → IsReadRun run → GoesOn run → ListMeans form run
list_means form meant run read goes url end d bases =
    let c = content_of run in
    let first = first_time run.segments in
    let offset = unwrap_or run.offset 0 in
    let from = first - offset in
    let begins : offset + from ≡ first = omega (arith, read.begins) in
    let same = segments_are run c.runs (map part_of run.segments) 0 1 from first run.segments refl (omega arith) refl begins goes.times in
    ap (λ n. entry_of whole_window (content_meant url end d
    (segments_told form run.scale offset n run.initialization (durations_in run) (map part_of run.segments)))) (sym begins)
    ∙ meant form c offset from url end d (plain run read) bases
    ∙ ap (entry_by c.initialization c.runs) (listed_from from c (plain run read))
    ∙ entry_is run c 1 from run.segments refl same

pub all_mean : (form : Form) → TimedContentsAreMeant → (periods : List LivePeriod)
    → All (λ (period : LivePeriod). All IsReadRun period.runs) periods → All (λ (period : LivePeriod). All GoesOn period.runs) periods
    → All (λ (period : LivePeriod). All (ListMeans form) period.runs) periods
all_mean form meant periods read goes = λ i d within k run inside.
    list_means form meant _ (read i d within k run inside) (goes i d within k run inside)

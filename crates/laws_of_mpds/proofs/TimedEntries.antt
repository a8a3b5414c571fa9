-- What a track has in a section by the times of its files.
use Rattle.timeline.specs.declared.names.Names.TheVariants as names
use Rattle.std.proofs.Common.{◌≡◌, ℕ, suc, ◌+◌, ◌-◌, ◌*◌, ◌<◌, List, [], ◌∷◌, length, map, drop, get_or, Some, None, IfSome}
use Rattle.std.proofs.{Common.{option_and_then, refl, sym, ◌∙◌, ap, arith}, Math.Seq.drop-cons, lemmas.List.drop_all}
use Rattle.std.proofs.lemmas.Option.{slice_get-get_or}
use Rattle.exact_time.specs.Time.{Time}
use Rattle.url_parts.specs.declared.address.Part.{Part}
use Rattle.meaning.specs.{Meanings.Segment, Same.{Pairwise, SameEntries, SameSegment}}
use Rattle.timeline.specs.{declared.window.Window.Window, Expansions.{Extent, SegmentTimeline, Timing, numbered}}
use Rattle.presentation.specs.{declared.parts.Content.Content, Presented.{Presented, content_at, listed_in, whole_window, window_of}}
use Rattle.presentation.specs.Meanings.{entry_at, entry_of, entry_with, part_meant, segment_of}
use Rattle.segment_forms.specs.declared.form.Form.TheVariants.{Plain}
use Rattle.dash_writer.specs.declared.timed.TickRun.{TickRun}
use Rattle.laws_of_mpds.specs.Rows.{in_row}
use Rattle.laws_of_mpds.specs.Timed.{AreFilesOf, AreJoined, TimedBeginInRow, TimedKeepTheirFiles, content_with, files_of, meant_parts}
use Rattle.laws_of_mpds.specs.Timed.{timed_as}
use Rattle.laws_of_mpds.proofs.{Contents.{length_row, listed_from, listed_is, parts_are}, Entries.same_entries_mean, Periods.window_is}
use Rattle.laws_of_mpds.proofs.Timed.{HasRun, as_many, content_is, from_first, has_run}

-- ---- the parts of segments

-- they are those from a place on
meant_behind : (tl : SegmentTimeline) (parts : List Part) (k n : ℕ) (xs : List Extent) → tl.names ≡ names.Addresses parts
    → n ≡ tl.first_number + k → k + length xs ≡ length parts → map (part_meant tl) (numbered n xs) ≡ drop k parts
unfolding part_meant
meant_behind tl parts k n [] named is paired = sym (drop_all k parts (omega (arith, paired)))
meant_behind tl parts k n (x ∷ xs) named is paired =
    let here : n - tl.first_number ≡ k = omega (arith, is) in
    let within : k < length parts = omega (arith, paired) in
    let nowhere : Part = record { address = []; range = None } in
    let next : suc k ≡ k + 1 = omega arith in
    rw (named, here, slice_get-get_or parts k nowhere within)
    (ap (λ more. get_or parts k nowhere ∷ more)
    (meant_behind tl parts (k + 1) (n + 1) xs named (omega (arith, is)) (omega (arith, paired)) ∙ ap (λ j. drop j parts) (sym next))
    ∙ sym (drop-cons parts k nowhere within))

part_each : (tl : SegmentTimeline) (xs : List Timing) → map (λ (s : Segment). s.part) (map (segment_of tl) xs) ≡ map (part_meant tl) xs
part_each tl [] = refl
part_each tl (x ∷ xs) = ap (λ parts. part_meant tl x ∷ parts) (part_each tl xs)

start_each : (tl : SegmentTimeline) (n : ℕ) (xs : List Extent)
    → map (λ (s : Segment). s.start) (map (segment_of tl) (numbered n xs)) ≡ map (λ (x : Extent). x.start) xs
start_each tl n [] = refl
start_each tl n (x ∷ xs) = ap (λ starts. x.start ∷ starts) (start_each tl (n + 1) xs)

joined_each : (tl : SegmentTimeline) (n ticks from : ℕ) (ds : List ℕ)
    → AreJoined (map (segment_of tl) (numbered n (in_row ticks from ds)))
joined_each tl n ticks from [] = tt
joined_each tl n ticks from (d ∷ []) = tt
joined_each tl n ticks from (d ∷ e ∷ ds) = (refl, joined_each tl (n + 1) ticks (from + d) (e ∷ ds))

-- ---- entries with the same parts

abbrev AnyTime : Time → Time → Type 0
AnyTime x y = Unit {0}

same_parts : (tl other : SegmentTimeline) (a b : Time) (xs ys : List Timing) → map (part_meant tl) xs ≡ map (part_meant other) ys
    → Pairwise (SameSegment AnyTime a b) (map (segment_of tl) xs) (map (segment_of other) ys)
same_parts tl other a b [] [] same = tt
same_parts tl other a b [] (y ∷ ys) same = absurd (cc)
same_parts tl other a b (x ∷ xs) [] same = absurd (cc)
same_parts tl other a b (x ∷ xs) (y ∷ ys) same =
    let first : part_meant tl x ≡ part_meant other y = cc in
    let later : map (part_meant tl) xs ≡ map (part_meant other) ys = cc in
    (record { part = first; time = tt }, same_parts tl other a b xs ys later)

alike : (initialization : Part) (tl other : SegmentTimeline) (xs ys : List Timing) → map (part_meant tl) xs ≡ map (part_meant other) ys
    → SameEntries AnyTime (entry_with initialization tl xs) (entry_with initialization other ys)
alike initialization tl other [] [] same = tt
alike initialization tl other [] (y ∷ ys) same = absurd (cc)
alike initialization tl other (x ∷ xs) [] same = absurd (cc)
alike initialization tl other (x ∷ xs) (y ∷ ys) same =
    record { initialization = refl; segments = same_parts tl other x.start y.start (x ∷ xs) (y ∷ ys) same }

-- ---- a track in a section

module _ (p : Presented) (times : List TickRun) (s k : ℕ) (finished : p.following ≡ None) (h : HasRun p times s k) where
  abbrev c : Content
  c = h.content

  abbrev with_times : Content
  with_times = content_with c h.run

  abbrev row : List Extent
  row = in_row h.run.scale (h.run.first - h.run.offset) h.run.durations

  own : meant_parts c ≡ h.plain.parts
  own =
      let row = in_row c.runs.ticks 0 h.plain.durations in
      ap (map (part_meant c.runs)) (listed_is c h.plain)
      ∙ meant_behind c.runs h.plain.parts 0 c.runs.first_number row h.plain.named (omega arith)
      (omega (arith, length_row c.runs.ticks 0 h.plain.durations, h.plain.paired))

  kept : map (part_meant with_times.runs) (numbered 1 row) ≡ meant_parts c
  kept =
      meant_behind with_times.runs (files_of c) 0 1 row refl (omega arith)
      (omega (arith, length_row h.run.scale (h.run.first - h.run.offset) h.run.durations, h.times_of.one_each))
      ∙ parts_are c h.plain ∙ sym own

  entry_before : entry_at p s k ≡ entry_of whole_window c
  entry_before =
      ap (option_and_then (entry_of (window_of p s))) h.there ∙ ap (λ (window : Window). entry_of window c) (window_is p s finished)

  entry_is : entry_at (timed_as p times) s k ≡ entry_with c.initialization with_times.runs (numbered 1 row)
  entry_is =
      let q = timed_as p times in
      let there : content_at q s k ≡ Some with_times =
      content_is p.contents times (s * length p.tracks + k) c h.run h.there h.timed in
      ap (option_and_then (entry_of (window_of q s))) there ∙ ap (λ (window : Window). entry_of window with_times) (window_is q s finished)
      ∙ ap (entry_with c.initialization with_times.runs) (listed_from (h.run.first - h.run.offset) with_times
      (from_first Plain p times s k finished h))

  same : SameEntries AnyTime (entry_at p s k) (entry_at (timed_as p times) s k)
  same = rw (entry_before, entry_is)
      (alike c.initialization c.runs with_times.runs (listed_in whole_window c.runs) (numbered 1 row) (sym kept))

  filled : (ds : List ℕ) → ds ≡ h.run.durations
      → IfSome (entry_with c.initialization with_times.runs (numbered 1 (in_row h.run.scale (h.run.first - h.run.offset) ds)))
      (AreFilesOf p times s k)
  filled [] is = tt
  filled (d ∷ ds) is =
      let tl = with_times.runs in
      let from = h.run.first - h.run.offset in
      let own = in_row h.run.scale from (d ∷ ds) in
      let same : own ≡ row = ap (in_row h.run.scale from) is in
      record {
        content = c;
        there = h.there;
        run = h.run;
        timed = h.timed;
        initialization = refl;
        parts = part_each tl (numbered 1 own) ∙ ap (λ xs. map (part_meant tl) (numbered 1 xs)) same ∙ kept;
        starts = start_each tl 1 own ∙ ap (map (λ (x : Extent). x.start)) same;
        joined = joined_each tl 1 h.run.scale from (d ∷ ds);
      }

  in_row_is : IfSome (entry_at (timed_as p times) s k) (AreFilesOf p times s k)
  in_row_is = rw entry_is (filled h.run.durations refl)

-- ---- the laws

pub begin_in_row : TimedBeginInRow
begin_in_row p times s k w t in_sections in_tracks = in_row_is p times s k w.finished (has_run p times s k w t in_sections in_tracks)

pub keep_their_files : TimedKeepTheirFiles
keep_their_files p times w t = same_entries_mean AnyTime p (timed_as p times) refl (as_many p times)
    (λ s k in_sections in_tracks. same p times s k w.finished (has_run p times s k w t in_sections in_tracks))

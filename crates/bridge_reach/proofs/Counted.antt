-- The runs that are made of what files state can be written, and begin as the files state.
use Rattle.std.proofs.Common.{◌≡◌, ◌<◌, ◌≤◌, ◌+◌, ◌*◌, ◌/◌, ◌%◌, ℕ, zero, suc, false, List, [], length, drop, take, All, get_or, Some, Ok}
use Rattle.std.proofs.{Common.{sym, ap, ◌∙◌, arith, subst, length-drop}, lemmas.Bool.Decides.nat_tests}
use Rattle.std.proofs.lemmas.List.{Elements.{All-drop, All-from_get_or, All-get_or, All-take}, get_or-drop, get_or-take, length-take}
use Rattle.std.proofs.lemmas.{List.FromFn.length-range_with_len, Nat.div-add-mod', Option.{get_or_from_slice_get, slice_get-get_or}}
use Rattle.std.proofs.{lemmas.Option.slice_get_within, Math.Nat.{div-lt_iff_lt-mul, mod-lt}}
use Rattle.std.specs.Prelude.{slice_get}
use Rattle.bridge_io.proofs.AndThen.{steps_of}
use Rattle.segment_forms.specs.declared.form.Form.{Form}
use Rattle.dash_writer.specs.{declared.timed.TickRun.TickRun, Timed.{CanBeCounted, CanBeTimed}}
use Rattle.fragment_times.specs.{declared.fault.TimesFault.TheVariants.Range, declared.period_start.PeriodStart.TheVariants.Own}
use Rattle.fragment_times.specs.{declared.times.SegmentTimes.SegmentTimes, Durations.{all_ticks, durations_of, is_too_long, section_ticks}}
use Rattle.fragment_times.specs.{Durations.{ticks_at, unless_long}, Origins.first_of, PeriodStarts.{offset_by, start_in, times_in}}
use Rattle.fragment_times.specs.Times.{FillPlaces, IsScaled, times_with}
use Rattle.fragment_times.proofs.{Apart.in_place, PeriodStarts.starts_are_before}
use Rattle.presentation.specs.{Counting.{sections_of, tracks_of}, Origins.CameFromPlaylists, Presented.{Presented, listed_at}}
use Rattle.bridge_reach.specs.DashTimes.{run_of, runs_of}
use Rattle.bridge_reach.proofs.{Places.{chunk_at, each_at, in_range, length_chunks, length_each}, Runs.{AreSections, IsLed, are_led}}
use Rattle.bridge_reach.proofs.Runs.{length_runs, lengths_as, run_at, unless_is}

-- what holds of a part of a list, at a place in the whole list
in_part : {X : Type 0} (P : X → Type 0) (xs : List X) (from n t : ℕ) (d : X) → All P (take n (drop from xs))
    → t < length (take n (drop from xs)) → t < n → P (get_or xs (from + t) d)
in_part P xs from n t d all within inside = subst P (get_or-take n (drop from xs) t d inside ∙ get_or-drop from xs t d) (all t d within)

-- ---- the ticks of a track in a section

record AreTicks (form : Form) (p : Presented) (times : List SegmentTimes) (rows : List (List ℕ)) : Type 0 where
  ticks : all_ticks form p times ≡ Ok rows
  short : is_too_long form p times rows ≡ false

are_ticks : (form : Form) (p : Presented) (times : List SegmentTimes) (rows : List (List ℕ)) → durations_of form p times ≡ Ok rows
    → AreTicks form p times rows
unfolding durations_of
are_ticks form p times rows is =
    let made = steps_of (all_ticks form p times) (λ rows. unless_long (is_too_long form p times rows) rows) rows is in
    let short = unless_is (is_too_long form p times made.value) Range made.value rows made.then in
    rw (← short.1) (record { ticks = made.first; short = short.0 })

-- what files state there, and how long the segments last by that
pub record IsTicked (p : Presented) (times : List SegmentTimes) (rows : List (List ℕ)) (s t : ℕ) : Type 0 where
  pub row : List ℕ
  pub here : slice_get rows (s * length p.tracks + t) ≡ Some row
  pub own : SegmentTimes
  pub there : slice_get times (s * length p.tracks + t) ≡ Some own
  pub led : IsLed (first_of own) own.starts row

module _ (form : Form) (p : Presented) (times : List SegmentTimes) (rows : List (List ℕ)) (filled : FillPlaces p (length times)) where
  abbrev own_at : (k : ℕ) → SegmentTimes
  own_at k = get_or times k (times_with 1 [])

  there_is : (s t : ℕ) → s < length p.sections → t < length p.tracks
      → slice_get times (s * length p.tracks + t) ≡ Some (own_at (s * length p.tracks + t))
  there_is s t in_sections in_tracks =
      let within : s * length p.tracks + t < length times = rw filled (in_place s t (length p.sections)
      (length p.tracks) in_sections in_tracks) in
      slice_get-get_or times (s * length p.tracks + t) (times_with 1 []) within

  as_many : (s : ℕ) (own : List (List ℕ)) → section_ticks form p times s ≡ Ok own → length own ≡ length p.tracks
  as_many s own is = length_each (ticks_at form p times s) (tracks_of p) own is ∙ length-range_with_len 0 (length p.tracks)

  module _ (ticks : all_ticks form p times ≡ Ok rows) where
    has_rows : length rows ≡ length times
    has_rows =
        length_chunks (section_ticks form p times) (length p.tracks) as_many (sections_of p) rows ticks
        ∙ ap (λ n. n * length p.tracks) (length-range_with_len 0 (length p.sections)) ∙ sym filled

    ticked : (s t : ℕ) → s < length p.sections → t < length p.tracks → IsTicked p times rows s t
    unfolding ticks_at
    ticked s t in_sections in_tracks =
        let row = chunk_at (section_ticks form p times) (length p.tracks) as_many (sections_of p) rows ticks s s
        (in_range (length p.sections) s in_sections) t in_tracks in
        let own = each_at (ticks_at form p times s) (tracks_of p) row.chunk row.given t t (in_range (length p.tracks) t in_tracks) in
        record {
          row = own.value;
          here = row.is ∙ own.is;
          own = own_at (s * length p.tracks + t);
          there = there_is s t in_sections in_tracks;
          led = are_led form (start_in form p times s) (record { section = s; track = t; segment = 0 }) (listed_at p s t)
              (own_at (s * length p.tracks + t)) own.value
              (rw (there_is s t in_sections in_tracks) at own.given);
        }

  pub ticked_at : durations_of form p times ≡ Ok rows → (s t : ℕ) → s < length p.sections → t < length p.tracks
      → IsTicked p times rows s t
  ticked_at is = ticked (are_ticks form p times rows is).ticks

  pub as_long : durations_of form p times ≡ Ok rows → length rows ≡ length times
  as_long is = has_rows (are_ticks form p times rows is).ticks

  pub are_sections : durations_of form p times ≡ Ok rows → AreSections form (length p.tracks) (length p.sections) times rows
  are_sections is = record { filled = filled; as_many = as_long is }

  -- ---- what can be written

  module _ (scaled : All IsScaled times) (are : AreTicks form p times rows) where
    abbrev runs : List TickRun
    runs = runs_of form p times rows

    abbrev none : TickRun
    none = run_of Own (times_with 1 []) []

    whole : AreSections form (length p.tracks) (length p.sections) times rows
    whole = record { filled = filled; as_many = has_rows are.ticks }

    -- no section starts after the first segment of one of its tracks
    begins : (s t : ℕ) (own : SegmentTimes) → t < length p.tracks → slice_get times (s * length p.tracks + t) ≡ Some own
        → offset_by (start_in form p times s) own ≤ first_of own
    begins s t own in_tracks there =
        let tracks = length p.tracks in let within = slice_get_within times (s * tracks + t) own there in
        let left = length-drop (s * tracks) times in
        let held = length-take tracks (drop (s * tracks) times) in
        let all = starts_are_before form (times_in p times s) (All-take IsScaled tracks (drop (s * tracks) times)
        (All-drop IsScaled (s * tracks) times scaled)) in
        let P : SegmentTimes → Type 0 = λ track. offset_by (start_in form p times s) track ≤ first_of track in
        subst P (get_or_from_slice_get times (s * tracks + t) own own there)
        (in_part P times (s * tracks) tracks t own all (omega (arith, within, left, held, in_tracks)) in_tracks)

    counted : (s t : ℕ) → s < length p.sections → t < length p.tracks → CanBeCounted (get_or runs (s * length p.tracks + t) none)
    counted s t in_sections in_tracks =
        let k = s * length p.tracks + t in let found = ticked are.ticks s t in_sections in_tracks in
        let within : k < length times = rw filled (in_place s t (length p.sections) (length p.tracks) in_sections in_tracks) in
        let start = start_in form p times s in
        let run = run_at form (length p.tracks) (length p.sections) times rows whole s t in_sections in_tracks found.own found.row
        found.there found.here in
        let own : get_or times k (times_with 1 []) ≡ found.own = get_or_from_slice_get times k found.own (times_with 1 []) found.there in
        rw (get_or_from_slice_get runs k (run_of start found.own found.row) none run) (record {
          scale = subst IsScaled own (All-get_or IsScaled times k (times_with 1 []) within scaled);
          begins = begins s t found.own in_tracks found.there;
          ends = found.led.ends;
        })

    positive : (sections tracks k : ℕ) → k < sections * tracks → 0 < tracks
    positive sections zero k within = absurd (omega (arith, within))
    positive sections (suc n) k within = omega arith

    length_whole : length runs ≡ length p.sections * length p.tracks
    length_whole = length_runs form (length p.tracks) (length p.sections) times rows whole

    counted_at : (k : ℕ) → k < length runs → CanBeCounted (get_or runs k none)
    counted_at k within =
        let inside : k < length p.sections * length p.tracks = omega (arith, within, length_whole) in
        let some : 0 < length p.tracks = positive (length p.sections) (length p.tracks) k inside in
        let section : k / length p.tracks < length p.sections = (div-lt_iff_lt-mul some).1 inside in
        let track : k % length p.tracks < length p.tracks = mod-lt k some in
        subst (λ k. CanBeCounted (get_or runs k none)) (div-add-mod' k (length p.tracks))
        (counted (k / length p.tracks) (k % length p.tracks) section track)

  pub can_be_timed : CameFromPlaylists p → All IsScaled times → durations_of form p times ≡ Ok rows
      → CanBeTimed p (runs_of form p times rows)
  can_be_timed came scaled is =
      let are = are_ticks form p times rows is in
      record {
        origin = came;
        filled = length_whole scaled are;
        counted = All-from_get_or CanBeCounted (runs_of form p times rows) (run_of Own (times_with 1 []) []) (counted_at scaled are);
        total = rw (← lengths_as form (length p.tracks) (length p.sections) times rows (whole scaled are))
            (grind (arith, nat_tests, are.short));
      }

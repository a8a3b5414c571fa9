-- Runs of ticks: when their segments begin, and how long they last.
use Rattle.std.proofs.Common.{◌≡◌, ◌<◌, ◌≤◌, ◌+◌, ◌-◌, ◌*◌, ◌^◌, ℕ, zero, suc, max, Bool, true, false, List, [], ◌∷◌, ◌++◌, length}
use Rattle.std.proofs.Common.{drop, take, sum, nat_le, get_or, Some, Ok, Err, if◌then◌else◌, refl, sym, ap, ◌∙◌, arith}
use Rattle.std.proofs.{Common.{length-append, length-drop}, lemmas.Bool.Decides.nat_tests, lemmas.List.Sums.sum_by-cons}
use Rattle.std.proofs.lemmas.{List.{drop-drop, length-take-le}, List.Elements.{All-cons, All-head, All-nil, All-tail}}
use Rattle.std.proofs.Math.Seq.{drop-append_seam, take-append_seam}
use Rattle.std.specs.Prelude.{◌||◌, All, slice_get}
use Rattle.bridge_io.proofs.AndThen.{steps_of}
use Rattle.dash_writer.specs.Timed.{lengths, longest}
use Rattle.timeline.specs.Expansions.{Timing}
use Rattle.fragment_times.specs.{declared.fault.SegmentSpot.SegmentSpot, declared.fault.TimesFault.TimesFault}
use Rattle.fragment_times.specs.{declared.period_start.PeriodStart.PeriodStart, declared.times.SegmentTimes.SegmentTimes}
use Rattle.fragment_times.specs.Durations.{begun_at, clock_of, is_late, last_of, last_ticks, last_ticks_of, longest_behind, nanos_of}
use Rattle.fragment_times.specs.Durations.{own_ticks, ticks_behind, ticks_from, ticks_of, lengths as own_lengths}
use Rattle.fragment_times.specs.{Origins.first_of, PeriodStarts.start_of, Refusals.next_spot}
use Rattle.dash_writer.specs.declared.timed.TickRun.{TickRun}
use Rattle.segment_forms.specs.declared.form.Form.{Form}
use Rattle.bridge_reach.specs.{DashTimes.{run_of, runs_from, section_runs}, Promises.starts_from}

-- ---- one behind another

pub unless_is : {X : Type 0} (b : Bool) (why : TimesFault) (x y : X) → (if b then Err why else Ok x) ≡ Ok y → (b ≡ false) × (x ≡ y)
unless_is true why x y is = absurd (cc)
unless_is false why x y is = (refl, (let same : x ≡ y = cc in same))

unless_both : {X : Type 0} (a b : Bool) (why other : TimesFault) (x y : X)
    → (if a then Err why else (if b then Err other else Ok x)) ≡ Ok y → (a ≡ false) × (x ≡ y)
unless_both true b why other x y is = absurd (cc)
unless_both false b why other x y is = (refl, (unless_is b other x y is).1)

-- segments that last so long begin at these times, and the last one ends below 2^63
pub record IsLed (first : ℕ) (starts ticks : List ℕ) : Type 0 where
  pub begins : starts_from first ticks ≡ starts
  pub ends : first + sum ticks < 2 ^ 63

either_false : (a b : Bool) → (a || b) ≡ false → a ≡ false
either_false true b is = absurd (cc)
either_false false b is = refl

module _ (form : Form) (start : PeriodStart) (own : SegmentTimes) (last : ℕ) where
  leads : (at : SegmentSpot) (begin : ℕ) (starts ticks : List ℕ)
      → ticks_from (clock_of form start own) last (begun_at at begin) starts ≡ Ok ticks → IsLed begin (begin ∷ starts) ticks
  leads at begin [] ticks is =
      let one = steps_of (last_ticks_of (clock_of form start own) last (begun_at at begin)) (λ t. Ok (t ∷ [])) ticks is in
      let end = unless_is (is_late (clock_of form start own) (begin + last)) _ last one.value one.first in
      let whole : one.value ∷ [] ≡ ticks = (let e = one.then in cc) in
      let early = either_false (nat_le (2 ^ 63) (begin + last)) _ end.0 in
      let before : begin + last < 2 ^ 63 = grind (arith, nat_tests, early) in
      let added : sum (one.value ∷ []) ≡ one.value + sum [] = sum_by-cons (λ n. n) one.value [] in
      rw (← whole) (record { begins = refl; ends = omega (arith, before, end.1, added) })
  leads at begin (later_start ∷ starts) ticks is =
      let one = steps_of (ticks_behind own.scale begin (begun_at (next_spot at) later_start)) _ ticks is in
      let later = steps_of (ticks_from (clock_of form start own) last (begun_at (next_spot at) later_start) starts)
      (λ later. Ok (one.value ∷ later)) ticks one.then in
      let after = unless_both (nat_le later_start begin) _ _ _ (later_start - begin) one.value one.first in
      let whole : one.value ∷ later.value ≡ ticks = (let e = later.then in cc) in
      let rises : begin < later_start = grind (arith, nat_tests, after.0) in
      let behind : begin + one.value ≡ later_start = omega (arith, rises, after.1) in
      let next = leads (next_spot at) later_start starts later.value later.first in
      let added : sum (one.value ∷ later.value) ≡ one.value + sum later.value = sum_by-cons (λ n. n) one.value later.value in
      rw (← whole) (record {
        begins = ap (λ first. begin ∷ starts_from first later.value) behind ∙ ap (λ starts. begin ∷ starts) next.begins;
        ends = omega (arith, behind, next.ends, added);
      })

pub are_led : (form : Form) (start : PeriodStart) (at : SegmentSpot) (listed : List Timing) (own : SegmentTimes) (ticks : List ℕ)
    → own_ticks form start at listed own ≡ Ok ticks → IsLed (first_of own) own.starts ticks
are_led form start at listed own ticks is = led own.starts is
  where
    led : (starts : List ℕ) → ticks_of at (clock_of form start own) (last_ticks form own.scale (last_of listed)) starts ≡ Ok ticks
        → IsLed (get_or starts 0 0) starts ticks
    led [] is =
        let none : [] ≡ ticks = cc in
        rw (← none) (record { begins = refl; ends = omega arith })
    led (first ∷ starts) is = leads form start own (last_ticks form own.scale (last_of listed)) at first starts ticks is

-- ---- the runs of a section's tracks

module _ (start : PeriodStart) where
  pub length_section : (times : List SegmentTimes) (rows : List (List ℕ)) → length rows ≡ length times
      → length (section_runs start times rows) ≡ length times
  length_section [] rows same = refl
  length_section (own ∷ times) [] same = absurd (omega (arith, same))
  length_section (own ∷ times) (row ∷ rows) same = ap suc (length_section times rows (omega (arith, same)))

  track_at : (times : List SegmentTimes) (rows : List (List ℕ)) (k : ℕ) (own : SegmentTimes) (row : List ℕ)
      → slice_get times k ≡ Some own → slice_get rows k ≡ Some row
      → slice_get (section_runs start times rows) k ≡ Some (run_of start own row)
  track_at [] rows k own row there is = absurd (cc)
  track_at (first ∷ times) [] k own row there is = absurd (cc)
  track_at (first ∷ times) (one ∷ rows) zero own row there is =
      let same : first ≡ own = cc in let as_long : one ≡ row = cc in
      rw (same, as_long) refl
  track_at (first ∷ times) (one ∷ rows) (suc k) own row there is = track_at times rows k own row there is

  longest_as : (former : ℕ) (times : List SegmentTimes) (rows : List (List ℕ))
      → longest_behind start former times rows ≡ max former (longest (section_runs start times rows))
  longest_as former [] rows = omega arith
  longest_as former (own ∷ times) [] = omega arith
  longest_as former (own ∷ times) (row ∷ rows) = longest_as (max former (nanos_of start own row)) times rows ∙ omega arith

  -- what holds of each track's run
  pub all_runs : (P : TickRun → Type 0) (times : List SegmentTimes) (rows : List (List ℕ))
      → All (λ (own : SegmentTimes). (row : List ℕ) → P (run_of start own row)) times → All P (section_runs start times rows)
  all_runs P [] rows all = All-nil P
  all_runs P (own ∷ times) [] all = All-nil P
  all_runs P (own ∷ times) (row ∷ rows) all =
      let Q : SegmentTimes → Type 0 = λ own. (row : List ℕ) → P (run_of start own row) in
      All-cons P (run_of start own row) (section_runs start times rows) (All-head Q own times all row)
      (all_runs P times rows (All-tail Q own times all))

-- ---- section by section

slice_take : {X : Type 0} (n : ℕ) (xs : List X) (i : ℕ) → i < n → slice_get (take n xs) i ≡ slice_get xs i
slice_take zero xs i within = absurd (omega (arith, within))
slice_take (suc n) [] i within = refl
slice_take (suc n) (x ∷ xs) zero within = refl
slice_take (suc n) (x ∷ xs) (suc i) within = slice_take n xs i (omega (arith, within))

slice_drop : {X : Type 0} (n : ℕ) (xs : List X) (i : ℕ) → slice_get (drop n xs) i ≡ slice_get xs (n + i)
slice_drop zero xs i = ap (slice_get xs) (omega arith)
slice_drop (suc n) [] i = refl
slice_drop (suc n) (x ∷ xs) i =
    let next : suc n + i ≡ suc (n + i) = omega arith in
    slice_drop n xs i ∙ ap (slice_get (x ∷ xs)) (sym next)

slice_part : {X : Type 0} (from n : ℕ) (xs : List X) (i : ℕ) → i < n → slice_get (take n (drop from xs)) i ≡ slice_get xs (from + i)
slice_part from n xs i within = slice_take n (drop from xs) i within ∙ slice_drop from xs i

module _ (form : Form) (tracks : ℕ) where
  -- so many sections of so many tracks each
  pub record AreSections (n : ℕ) (times : List SegmentTimes) (rows : List (List ℕ)) : Type 0 where
    pub filled : length times ≡ n * tracks
    pub as_many : length rows ≡ length times

  -- the runs of the first section's tracks
  abbrev pub first_runs : (times : List SegmentTimes) (rows : List (List ℕ)) → List TickRun
  first_runs times rows = section_runs (start_of form (take tracks times)) (take tracks times) (take tracks rows)

  -- the next section
  pub next_section : (sections s : ℕ) (times : List SegmentTimes) (rows : List (List ℕ)) → s < sections
      → runs_from form tracks (sections - s) times rows
      ≡ first_runs times rows ++ runs_from form tracks (sections - (s + 1)) (drop tracks times) (drop tracks rows)
  next_section sections s times rows within =
      let left : sections - s ≡ suc (sections - (s + 1)) = omega arith in
      ap (λ n. runs_from form tracks n times rows) left

  module _ (n : ℕ) (times : List SegmentTimes) (rows : List (List ℕ)) (are : AreSections (suc n) times rows) where
    abbrev later_runs : List TickRun
    later_runs = runs_from form tracks n (drop tracks times) (drop tracks rows)

    later_sections : AreSections n (drop tracks times) (drop tracks rows)
    later_sections = record {
      filled = length-drop tracks times ∙ omega (arith, are.filled);
      as_many = length-drop tracks rows ∙ ap (λ n. n - tracks) are.as_many ∙ sym (length-drop tracks times);
    }

    length_first : length (first_runs times rows) ≡ tracks
    length_first =
        let enough : tracks ≤ length times = omega (arith, are.filled) in
        let whole = length-take-le tracks times enough in
        let as_many = length-take-le tracks rows (omega (arith, enough, are.as_many)) in
        length_section (start_of form (take tracks times)) (take tracks times) (take tracks rows) (as_many ∙ sym whole) ∙ whole

    abbrev all : List TickRun
    all = first_runs times rows ++ later_runs

    own_back : take tracks all ≡ first_runs times rows
    own_back = ap (λ n. take n all) (sym length_first) ∙ take-append_seam (first_runs times rows) later_runs

    later_back : drop tracks all ≡ later_runs
    later_back = ap (λ n. drop n all) (sym length_first) ∙ drop-append_seam (first_runs times rows) later_runs

  pub length_runs : (n : ℕ) (times : List SegmentTimes) (rows : List (List ℕ)) → AreSections n times rows
      → length (runs_from form tracks n times rows) ≡ n * tracks
  length_runs zero times rows are = omega arith
  length_runs (suc n) times rows are =
      let later = length_runs n (drop tracks times) (drop tracks rows) (later_sections n times rows are) in
      length-append (first_runs times rows) (later_runs n times rows are) ∙ omega (arith, length_first n times rows are, later)

  pub section_at : (n : ℕ) (times : List SegmentTimes) (rows : List (List ℕ)) → AreSections n times rows → (s : ℕ) → s < n
      → take tracks (drop (s * tracks) (runs_from form tracks n times rows)) ≡ first_runs (drop (s * tracks) times) (drop (s * tracks) rows)
  section_at zero times rows are s within = absurd (omega (arith, within))
  section_at (suc n) times rows are zero within =
      let none : 0 * tracks ≡ 0 = omega arith in
      rw none (own_back n times rows are)
  section_at (suc n) times rows are (suc s) within =
      let next : suc s * tracks ≡ tracks + s * tracks = omega arith in
      let there = section_at n (drop tracks times) (drop tracks rows) (later_sections n times rows are) s (omega (arith, within)) in
      rw (
        next,
        ← drop-drop (s * tracks) tracks times,
        ← drop-drop (s * tracks) tracks rows,
        ← drop-drop (s * tracks) tracks (runs_from form tracks (suc n) times rows),
        later_back n times rows are,
      ) there

  pub run_at : (n : ℕ) (times : List SegmentTimes) (rows : List (List ℕ)) → AreSections n times rows → (s t : ℕ) → s < n → t < tracks
      → (own : SegmentTimes) (row : List ℕ) → slice_get times (s * tracks + t) ≡ Some own → slice_get rows (s * tracks + t) ≡ Some row
      → slice_get (runs_from form tracks n times rows) (s * tracks + t)
      ≡ Some (run_of (start_of form (take tracks (drop (s * tracks) times))) own row)
  run_at n times rows are s t in_sections in_tracks own row there is =
      sym (slice_part (s * tracks) tracks (runs_from form tracks n times rows) t in_tracks)
      ∙ ap (λ runs. slice_get runs t) (section_at n times rows are s in_sections)
      ∙ track_at (start_of form (take tracks (drop (s * tracks) times))) _ _ t own row
      (slice_part (s * tracks) tracks times t in_tracks ∙ there) (slice_part (s * tracks) tracks rows t in_tracks ∙ is)

  pub lengths_as : (n : ℕ) (times : List SegmentTimes) (rows : List (List ℕ)) → AreSections n times rows
      → own_lengths form tracks n times rows ≡ lengths tracks n (runs_from form tracks n times rows)
  lengths_as zero times rows are = refl
  lengths_as (suc n) times rows are =
      let some = first_runs times rows in
      let all : max 0 (longest some) ≡ longest some = omega arith in
      let here = longest_as (start_of form (take tracks times)) 0 (take tracks times) (take tracks rows) ∙ all in
      let later = lengths_as n (drop tracks times) (drop tracks rows) (later_sections n times rows are) in
      rw (here, later, own_back n times rows are, later_back n times rows are) refl

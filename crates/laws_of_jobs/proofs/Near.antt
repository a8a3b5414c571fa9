-- For players a Period starts less than a unit before the first of its segments.
use Rattle.std.proofs.Common.{◌≡◌, ℕ, zero, suc, ◌+◌, ◌-◌, ◌*◌, ◌/◌, ◌<◌, List, [], ◌∷◌, length, get_or, take, drop, All, Ok, refl, sym, ap}
use Rattle.std.proofs.{Common.{◌∙◌, mul_assoc, subst, arith}, lemmas.Nat.Gcd.le_of_dvd, lemmas.List.{length-drop, length-take}}
use Rattle.std.proofs.lemmas.List.Elements.{All-drop, All-take}
use Rattle.std.proofs.Math.Nat.{add-mul, div-mul_cancel, lt_of_mul-lt-mul_right, mul-le-mul_left, mul-lt-mul_of_pos_right}
use Rattle.std.proofs.Math.Nat.{pos_of_dvd_of_pos}
use Rattle.std.specs.{Int.◌∣◌}
use Rattle.bridge_io.specs.Outside.{Files}
use Rattle.segment_forms.specs.declared.form.Form.{Form, TheVariants.{Plain, Players}}
use Rattle.dash_writer.specs.declared.timed.TickRun.{TickRun}
use Rattle.presentation.specs.Presented.{Presented}
use Rattle.fragment_times.specs.{declared.period_start.PeriodStart.{PeriodStart, TheVariants.Shared}, Durations.durations_of}
use Rattle.fragment_times.specs.{declared.times.SegmentTimes.SegmentTimes, Origins.{count_of, first_of, origin_of, unit_of}}
use Rattle.fragment_times.specs.{Times.{IsScaled, times_of}}
use Rattle.fragment_times.proofs.{Origins.{origins_are_near, units_are_common}, Scaled.times_are_scaled}
use Rattle.bridge_reach.specs.{DashTimes.{run_of, runs_of, section_runs}, Promises.runs_in}
use Rattle.bridge_reach.proofs.{Counted.are_sections, Runs.section_at, Stated.are_filled}
use Rattle.laws_of_jobs.specs.TimedRuns.{IsNear, StartsNear}

-- ---- the runs of a section's tracks

module _ (start : PeriodStart) where
  runs_length : (times : List SegmentTimes) (rows : List (List ℕ)) → length rows ≡ length times
      → length (section_runs start times rows) ≡ length times
  runs_length [] rows same = refl
  runs_length (own ∷ times) [] same = absurd (omega arith)
  runs_length (own ∷ times) (row ∷ rows) same = ap suc (runs_length times rows (omega arith))

  runs_get : (times : List SegmentTimes) (rows : List (List ℕ)) → length rows ≡ length times → (k : ℕ) (d : SegmentTimes) (e : TickRun)
      → k < length times → get_or (section_runs start times rows) k e ≡ run_of start (get_or times k d) (get_or rows k [])
  runs_get [] rows same k d e within = absurd (omega arith)
  runs_get (own ∷ times) [] same k d e within = absurd (omega arith)
  runs_get (own ∷ times) (row ∷ rows) same zero d e within = refl
  runs_get (own ∷ times) (row ∷ rows) same (suc k) d e within = runs_get times rows (omega arith) k d e (omega arith)

-- ---- a start in units

positive_part : (part unit scale : ℕ) → part * unit ≡ scale → 0 < scale → 0 < part
positive_part part unit scale all positive = grind arith

near_in : (first scale unit count : ℕ) → 0 < scale → 0 < unit → unit ∣ scale → first * unit < (count + 1) * scale
    → (first - count * (scale / unit)) * unit < scale
near_in first scale unit count positive some divides reached =
    let part : ℕ = scale / unit in
    let all : part * unit ≡ scale = div-mul_cancel unit divides in
    let reached : first * unit < (count + 1) * (part * unit) = rw (sym all) at reached in
    let whole : first * unit < (count + 1) * part * unit = subst (λ n. first * unit < n) (sym (mul_assoc (count + 1) part unit)) reached in
    let below : first < count * part + 1 * part = subst (λ n. first < n) (add-mul count 1 part) (lt_of_mul-lt-mul_right unit whole) in
    let some_part : 0 < part = positive_part part unit scale all positive in
    let less : first - count * part < part = omega (arith, below, some_part) in
    subst (λ n. (first - count * part) * unit < n) all (mul-lt-mul_of_pos_right less some)

near_by : (times : List SegmentTimes) (rows : List (List ℕ)) → All IsScaled times → length rows ≡ length times
    → IsNear (section_runs (Shared (origin_of times)) times rows)
near_by times rows scaled same some n divides =
    let start : PeriodStart = Shared (origin_of times) in
    let runs = section_runs start times rows in
    let held = runs_length start times rows same in
    let common = units_are_common times scaled in
    let any = origins_are_near times scaled (omega (arith, some, held)) in
    let k = any.0 in let own = any.1 in
    let here : TickRun = run_of start own (get_or rows k []) in
    let there : get_or runs k here ≡ here = runs_get start times rows same k own here any.2
    ∙ ap (λ (o : SegmentTimes). run_of start o (get_or rows k [])) any.3 in
    let unit = unit_of times in
    let whole : unit ∣ own.scale = subst (λ (o : SegmentTimes). unit ∣ o.scale) any.3 (common.divides k own any.2) in
    let positive : 0 < own.scale = subst IsScaled any.3 (scaled k own any.2) in
    let some_unit : 0 < unit = pos_of_dvd_of_pos whole positive in
    let shares : n ∣ unit = common.greatest n (λ j d within.
    subst (λ (r : TickRun). n ∣ r.scale) (runs_get start times rows same j d (run_of start d []) within)
    (divides j (run_of start d []) (omega (arith, within, held)))) in
    let less = near_in (first_of own) own.scale unit (count_of unit times) positive some_unit whole any.4 in
    let fewer = mul-le-mul_left (here.first - here.offset) (le_of_dvd some_unit shares) in
    (k, here, omega (arith, any.2, held), there, omega (arith, less, fewer))

-- ---- the Periods

module _ (folder : List ℕ) (files : Files) (p : Presented) (times : List SegmentTimes) (rows : List (List ℕ))
    (stated : times_of folder files p ≡ Ok times) where
  pub near_start : (form : Form) → durations_of form p times ≡ Ok rows → (s : ℕ) → s < length p.sections
      → StartsNear form (runs_in p (runs_of form p times rows) s)
  near_start Plain lasting s within = tt
  near_start Players lasting s within =
      let tracks = length p.tracks in
      let whole = are_sections Players p times rows (are_filled folder files p times stated) lasting in
      let scaled = All-take IsScaled tracks (drop (s * tracks) times) (All-drop IsScaled (s * tracks) times
      (times_are_scaled folder files p times stated)) in
      let same : length (take tracks (drop (s * tracks) rows)) ≡ length (take tracks (drop (s * tracks) times)) =
      omega (
        arith,
        length-take tracks (drop (s * tracks) rows),
        length-take tracks (drop (s * tracks) times),
        length-drop (s * tracks) rows,
        length-drop (s * tracks) times,
        whole.as_many,
      ) in
      rw (section_at Players tracks (length p.sections) times rows whole s within)
      (near_by (take tracks (drop (s * tracks) times)) (take tracks (drop (s * tracks) rows)) scaled same)

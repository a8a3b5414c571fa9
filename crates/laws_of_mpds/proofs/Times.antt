-- The times of a written SegmentTimeline are those that it was written of.
use Rattle.std.proofs.Common.{◌≡◌, ℕ, suc, ◌+◌, ◌*◌, ◌<◌, ℤ, pos, ◌-ℤ◌, ◌+ℤ◌, Bool, true, false, List, [], ◌∷◌, ◌++◌, length, map, filter}
use Rattle.std.proofs.Common.{Option, Some, None, if◌then◌else◌, unwrap_or, refl, sym, ◌∙◌, ap, ap₂}
use Rattle.std.proofs.{Common.arith, lemmas.Bool.and_parts, lemmas.Int.ints}
use Rattle.std.proofs.lemmas.List.{map-append}
use Rattle.std.specs.List.{AllByRecursion}
use Rattle.exact_time.specs.Time.{Time, in_units, before, seconds}
use Rattle.timeline.specs.{declared.entry.End.End, declared.entry.Scale.Scale, Expansions.{Extent, Closed, extents, numbered, repeated}}
use Rattle.timeline.specs.{Expansions.repeat_of, Listed.is_listed, Ratios.natural, Timelines.{expansion_of_timeline, members_from}}
use Rattle.presentation.specs.Presented.{whole_window}
use Rattle.dash_writer.specs.{Runs.{longest_runs, with_first}, Segments.{duration_of, joins, same_duration}}
use Rattle.laws_of_mpds.specs.{Rows.in_row, Told.runs_of}

-- ---- durations

pub duration_is : (from d n ticks : ℕ) → duration_of (record {
  start = in_units ticks from;
  end = in_units ticks (from + d);
  number = n;
}) ≡ d
duration_is from d n ticks = let same : pos (from + d) -ℤ pos from ≡ pos d = omega (arith, ints) in ap natural same

pub durations_are : (ticks from n : ℕ) (ds : List ℕ) → map duration_of (numbered n (in_row ticks from ds)) ≡ ds
durations_are ticks from n [] = refl
durations_are ticks from n (d ∷ ds) = ap₂ (λ e es. e ∷ es) (duration_is from d n ticks) (durations_are ticks (from + d) (n + 1) ds)

-- ---- what is listed

pub extents_closed : (t : Time) (xs : List Extent) → extents t (map Closed xs) ≡ xs
extents_closed t [] = refl
extents_closed t (x ∷ xs) = ap (λ ys. x ∷ ys) (extents_closed t xs)

ends_later : (ticks n : ℕ) → 0 < ticks → 0 < n → before (seconds 0) (in_units ticks n) ≡ true
ends_later ticks n positive some = grind arith

pub all_listed : (ticks from n : ℕ) (ds : List ℕ) → 0 < ticks → AllByRecursion (λ d. 0 < d) ds
    → filter (is_listed whole_window) (numbered n (in_row ticks from ds)) ≡ numbered n (in_row ticks from ds)
all_listed ticks from n [] positive lasting = refl
all_listed ticks from n (d ∷ ds) positive lasting =
    let first = ends_later ticks (from + d) positive (omega (arith, lasting.0)) in
    rw first (ap (λ xs. record { start = in_units ticks from; end = in_units ticks (from + d); number = n } ∷ xs)
    (all_listed ticks (from + d) (n + 1) ds positive lasting.1))

-- ---- runs

-- each duration of a run is the first one
abbrev IsRun : List ℕ → Type 0
IsRun [] = ⊥
IsRun (d ∷ others) = AllByRecursion (λ e. e ≡ d) others

abbrev joined : List (List ℕ) → List ℕ
joined [] = []
joined (run ∷ runs) = run ++ joined runs

same_as : (d e : ℕ) (es : List ℕ) → d ≡ e → AllByRecursion (λ x. x ≡ e) es → AllByRecursion (λ x. x ≡ d) es
same_as d e [] is all = tt
same_as d e (x ∷ es) is all = (all.0 ∙ sym is, same_as d e es is all.1)

-- whether segments are joined or not
module _ (join : Bool) where
  first_joins : (d : ℕ) (runs : List (List ℕ)) → joined (with_first (joins join) d runs) ≡ d ∷ joined runs
  first_joins d [] = refl
  first_joins d ([] ∷ runs) = refl
  first_joins d ((e ∷ run) ∷ runs) = go (joins join d e) where
    go : (same : Bool) → joined (if same then (d ∷ e ∷ run) ∷ runs else (d ∷ []) ∷ (e ∷ run) ∷ runs) ≡ d ∷ (e ∷ run) ++ joined runs
    go true = refl
    go false = refl

  all_join : (ds : List ℕ) → joined (longest_runs (joins join) ds) ≡ ds
  all_join [] = refl
  all_join (d ∷ ds) = first_joins d (longest_runs (joins join) ds) ∙ ap (λ es. d ∷ es) (all_join ds)

  first_runs : (d : ℕ) (runs : List (List ℕ)) → AllByRecursion IsRun runs → AllByRecursion IsRun (with_first (joins join) d runs)
  first_runs d [] all = (tt, tt)
  first_runs d ([] ∷ runs) all = absurd (all.0)
  first_runs d ((e ∷ run) ∷ runs) all = go (joins join d e) refl where
    go : (same : Bool) → joins join d e ≡ same
        → AllByRecursion IsRun (if same then (d ∷ e ∷ run) ∷ runs else (d ∷ []) ∷ (e ∷ run) ∷ runs)
    go true is =
        let equal = (and_parts join (same_duration d e) is).1 in
        let alike : d ≡ e = grind arith in
        ((sym alike, same_as d e run alike all.0), all.1)
    go false is = (tt, all)

  all_run : (ds : List ℕ) → AllByRecursion IsRun (longest_runs (joins join) ds)
  all_run [] = tt
  all_run (d ∷ ds) = first_runs d (longest_runs (joins join) ds) (all_run ds)

-- ---- segments from a media time on

-- a media time relative to the Period's start, which has a media time of its own
abbrev pub media_at : (ticks offset time : ℕ) → Time
media_at ticks offset time = record { ticks = pos time -ℤ pos offset; scale = ticks }

abbrev pub extent_at : (ticks offset time d : ℕ) → Extent
extent_at ticks offset time d = record { start = media_at ticks offset time; end = media_at ticks offset (time + d) }

-- consecutive segments with these durations
abbrev pub row_at : (ticks offset time : ℕ) → List ℕ → List Extent
row_at ticks offset time [] = []
row_at ticks offset time (d ∷ ds) = extent_at ticks offset time d ∷ row_at ticks offset (time + d) ds

pub length_row_at : (ticks offset time : ℕ) (ds : List ℕ) → length (row_at ticks offset time ds) ≡ length ds
length_row_at ticks offset time [] = refl
length_row_at ticks offset time (d ∷ ds) = ap suc (length_row_at ticks offset (time + d) ds)

media_is : (ticks offset from : ℕ) → media_at ticks offset (offset + from) ≡ in_units ticks from
media_is ticks offset from =
    let same : pos (offset + from) -ℤ pos offset ≡ pos from = omega (arith, ints) in
    ap (λ (z : ℤ). record { ticks = z; scale = ticks }) same

pub row_is : (ticks offset from : ℕ) (ds : List ℕ) → row_at ticks offset (offset + from) ds ≡ in_row ticks from ds
row_is ticks offset from [] = refl
row_is ticks offset from (d ∷ ds) =
    let next : offset + from + d ≡ offset + (from + d) = omega arith in
    ap (λ time. record { start = media_at ticks offset (offset + from); end = media_at ticks offset time }
    ∷ row_at ticks offset time ds) next
    ∙ ap₂ (λ start end. record { start = start; end = end } ∷ row_at ticks offset (offset + (from + d)) ds) (media_is ticks offset from)
    (media_is ticks offset (from + d))
    ∙ ap (λ xs. record { start = in_units ticks from; end = in_units ticks (from + d) } ∷ xs) (row_is ticks offset (from + d) ds)

repeat_at : (ticks offset time d : ℕ) → repeat_of (extent_at ticks offset time d) ≡ extent_at ticks offset (time + d) d
repeat_at ticks offset time d =
    let same : (pos (time + d) -ℤ pos offset) +ℤ ((pos (time + d) -ℤ pos offset) -ℤ (pos time -ℤ pos offset))
    ≡ pos (time + d + d) -ℤ pos offset = omega (arith, ints) in
    ap (λ (z : ℤ). record { start = media_at ticks offset (time + d); end = record { ticks = z; scale = ticks } }) same

run_is : (ticks offset time d : ℕ) (others : List ℕ) → AllByRecursion (λ e. e ≡ d) others
    → repeated (suc (length others)) (extent_at ticks offset time d) ≡ row_at ticks offset time (d ∷ others)
unfolding repeated
run_is ticks offset time d [] all = refl
run_is ticks offset time d (e ∷ others) all =
    ap (λ xs. extent_at ticks offset time d ∷ xs)
    (ap (repeated (suc (length others))) (repeat_at ticks offset time d) ∙ run_is ticks offset (time + d) d others all.1
    ∙ ap (λ k. row_at ticks offset (time + d) (k ∷ others)) (sym all.0))

row_joins : (ticks offset time d : ℕ) (others ds : List ℕ) → AllByRecursion (λ e. e ≡ d) others
    → row_at ticks offset time (others ++ ds) ≡ row_at ticks offset time others ++ row_at ticks offset (time + length others * d) ds
row_joins ticks offset time d [] ds all = ap (λ n. row_at ticks offset n ds) (omega arith)
row_joins ticks offset time d (e ∷ others) ds all =
    ap (λ xs. extent_at ticks offset time e ∷ xs)
    (row_joins ticks offset (time + e) d others ds all.1
    ∙ ap (λ n. row_at ticks offset (time + e) others ++ row_at ticks offset n ds) (omega (arith, all.0)))

-- ---- what an S gives

-- the members of an S are its run
runs_expand : (scale : Scale) (end : End) (told : Option ℕ) (former time : ℕ) (runs : List (List ℕ)) → unwrap_or told former ≡ time
    → AllByRecursion IsRun runs
    → members_from scale end former (runs_of told runs) ≡ map Closed (row_at scale.ticks scale.offset time (joined runs))
runs_expand scale end told former time [] begins all = refl
runs_expand scale end told former time ([] ∷ runs) begins all = absurd (all.0)
runs_expand scale end told former time ((d ∷ others) ∷ runs) begins all =
    let count : length others + 1 ≡ suc (length others) = omega arith in
    let later = time + suc (length others) * d in
    let row = row_at scale.ticks scale.offset in
    rw (begins, count, run_is scale.ticks scale.offset time d others all.0)
    (ap (λ ms. map Closed (row time (d ∷ others)) ++ ms)
    (runs_expand scale end None later later runs refl all.1)
    ∙ sym (map-append Closed (row time (d ∷ others)) (row later (joined runs)))
    ∙ ap (map Closed) (sym (row_joins scale.ticks scale.offset time d (d ∷ others) (joined runs) (refl, all.0))))

pub timeline_expands : (join : Bool) (scale : Scale) (end : End) (first : ℕ) (ds : List ℕ)
    → expansion_of_timeline scale end (runs_of (Some first) (longest_runs (joins join) ds))
    ≡ map Closed (row_at scale.ticks scale.offset first ds)
timeline_expands join scale end first ds =
    runs_expand scale end (Some first) 0 first (longest_runs (joins join) ds) refl (all_run join ds)
    ∙ ap (λ es. map Closed (row_at scale.ticks scale.offset first es)) (all_join join ds)

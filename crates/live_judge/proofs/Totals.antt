-- Sums of printed durations, which stop at the last value of a counter.
use Rattle.std.proofs.Common.{◌≡◌, ℕ, ◌+◌, ◌-◌, ◌^◌, ◌≤◌, List, length, sum, Option, Some, refl, sym, ◌∙◌, ap, subst, arith, [], ◌∷◌, ◌++◌}
use Rattle.std.proofs.{Common.None, lemmas.List.Sums.sum_by-cons, lemmas.Grind.common_steps, lemmas.Option.slice_get-map}
use Rattle.std.specs.Prelude.{IfSome, flat_map, option_map, filter, slice_get}
use Rattle.exact_time.specs.Tick.{time_of}
use Rattle.presentation.proofs.{Counts.{from_on, from_on-start}, Grids.found}
use Rattle.followed.specs.Durations.{Last}
use Rattle.live_meaning.specs.{Updates.unit_of, Segments.id_at, Known.ids_of, Refusals.{ids_in, LongSegment, Refusal}, States.new_durations}
use Rattle.live_meaning.proofs.Accepted.{id_there}
use Rattle.live_judge.specs.{declared.times.NewRun.NewRun, declared.track_next.TrackNext.TrackNext, Coming.{IsTrackNext, c_of, coming_of}}
use Rattle.live_judge.specs.{Coming.{p_of, t_of}, New.durations_in, Removal.kept_in, Seconds.capped, Shown.last_from, Times.IsRun}
use Rattle.live_judge.specs.{Times.{IsNextRun, left_of}, declared.times.NewTimes.NewTimes, Long.{is_long, longs_told}}
use Rattle.live_judge.proofs.{Keeping.length-kepts, New.durations_are, Places.place_there, Contents.{paired_there, sound_there}}
use Rattle.live_judge.proofs.Walks.{first_append, none_from_first}
use Rattle.bridge_io.specs.Firsts.{first_of}

-- ---- sums

-- a sum so far, with what is left of all
pub record IsSoFar (total : ℕ) (left all : List ℕ) : Type 0 where
  pub sums : capped (total + sum left) ≡ capped (sum all)
  pub bound : total ≤ 2 ^ 128 - 1

-- ---- runs

pub run_sum : (ds : List ℕ) (run : NewRun) (first total : ℕ) → IsRun ds run → first ≡ run.first → total ≡ capped (run.others.total + first)
    → total ≡ capped (sum ds)
run_sum ds run first total is same added =
    let all : sum ds ≡ run.first + sum is.others = ap sum is.is ∙ sum_by-cons (λ m. m) run.first is.others in
    let others = ap (λ e. e.total) is.summed in
    omega (arith, all, others, same, added)

-- ---- sections

abbrev pub durs : TrackNext → ℕ → List ℕ
durs l s = durations_in (c_of l) (l.next.now).place (t_of l) l.index s

last_some : (l : TrackNext) → IsTrackNext l → (k : Last) × ((t_of l).last ≡ Some k)
last_some l is =
    let kept = kept_in l.track.now in
    let paired = paired_there l is in
    let long : length kept ≡ length (l.track.now).facts.items = length-kepts (l.track.now).items.items
    (l.track.now).facts.items paired.paired in
    let there = found kept (length kept - 1) (omega (arith, long, paired.some)) in
    (last_from (time_of (l.track.now).begin) there.0, ap (option_map (last_from (time_of (l.track.now).begin))) there.1)

pub durations_there : (l : TrackNext) → IsTrackNext l → new_durations (c_of l) l.index (t_of l)
    ≡ flat_map (durs l) (from_on 0 (length (p_of l.next.now).sections))
durations_there l is =
    let last = last_some l is in
    let low = subst (λ (o : Option Last). IfSome o (λ k. k.section ≤ (t_of l).place + ((l.next.now).standing.now).resets)) last.1
    (sound_there l is).section in
    let more : ((l.next.now).standing.now).resets ≤ (coming_of l.next.now).resets = grind arith in
    durations_are (c_of l) (l.next.now).place (t_of l) l.index last.0
    (λ s less. place_there (ids_of (c_of l).known) (ids_in (p_of l.next.now)) (l.next.now).place s
    (id_at (p_of l.next.now) s) is.next.stands (id_there (p_of l.next.now).sections s less))
    last.1 (omega (arith, low, more))
    ∙ ap (flat_map (durs l)) (sym (from_on-start (length (p_of l.next.now).sections)))

-- ---- segments that are longer than the target duration, run by run and section by section

longs_append : (unit target : ℕ) (ds es : List ℕ) → longs_told unit target (ds ++ es) ≡ longs_told unit target ds
    ++ longs_told unit target es
longs_append unit target ds es = grind (arith, common_steps)

longs_flat : (unit target : ℕ) (list : ℕ → List ℕ) (xs : List ℕ)
    → longs_told unit target (flat_map list xs) ≡ flat_map (λ s. longs_told unit target (list s)) xs
longs_flat unit target list [] = refl
longs_flat unit target list (x ∷ xs) = longs_append unit target (list x) (flat_map list xs) ∙ (rw (longs_flat unit target list xs) refl)

module _ (unit target : ℕ) (old new : NewTimes) (run : NewRun) (is : IsNextRun old run new) (o : Option ℕ)
    (first : (ds : List ℕ) → IsRun ds run → slice_get (filter (is_long unit target) ds) 0 ≡ o) where
  split : longs_told unit target (left_of old) ≡ longs_told unit target is.ds ++ longs_told unit target (left_of new)
  split = ap (longs_told unit target) is.next ∙ longs_append unit target is.ds (left_of new)

  pub none_in_run : o ≡ None → longs_told unit target (left_of old) ≡ longs_told unit target (left_of new)
  none_in_run none = split ∙ (rw (none_from_first (filter (is_long unit target) is.ds) (first is.ds is.tells ∙ none)) refl)

  pub first_in_run : (printed : ℕ) → o ≡ Some printed → first_of (longs_told unit target (left_of old)) ≡ Some (LongSegment target printed)
  first_in_run printed some = rw (split, first_append, slice_get-map, first is.ds is.tells, some) refl

-- ---- section by section

abbrev pub long_in : TrackNext → ℕ → List Refusal
long_in l s = longs_told (unit_of (c_of l).terms) (c_of l).target (durs l s)

pub long_there : (l : TrackNext) → IsTrackNext l
    → longs_told (unit_of (c_of l).terms) (c_of l).target (new_durations (c_of l) l.index (t_of l))
    ≡ flat_map (long_in l) (from_on 0 (length (p_of l.next.now).sections))
long_there l is =
    rw (durations_there l is) (longs_flat (unit_of (c_of l).terms) (c_of l).target (durs l) (from_on 0 (length (p_of l.next.now).sections)))

-- The runs of a snapshot with its files' times.
use Rattle.hls_follow.specs.TimedPeriods as periods
use Rattle.std.proofs.Common.{◌≡◌, ℕ, ◌+◌, List, [], ◌∷◌, length, map, take, drop, All, Option, Ok, refl, sym, ap, subst}
use Rattle.std.proofs.lemmas.List.Elements.{All-nil, All-cons}
use Rattle.bridge_io.proofs.AndThen.{steps_of}
use Rattle.hls_media.specs.declared.media.MediaSegment.{MediaSegment}
use Rattle.hls_presentation.specs.Tracks.{Source}
use Rattle.dash_writer.specs.{declared.live.LivePeriod.LivePeriod, declared.live.LiveRun.LiveRun}
use Rattle.dash_writer.specs.{declared.live.LiveSegment.LiveSegment, declared.timed.TickRun.TickRun, Live.first_time}
use Rattle.hls_follow.specs.{declared.state.Followed.Followed, Kept.periods_of, Listed.{GoesOn, times_from}, OwnTimes.{Snapshot, map_of}}
use Rattle.hls_follow.specs.{Periods.{end_of, extent_of, known_in, last_end}, Stretches.{Stretch, stretch_at}, TimedHistories.Round}
use Rattle.hls_follow.proofs.{OwnParts.OwnParts, OwnTracks.{listed_are, snapshot}}

goes_from : (time : ℕ) (durations : List ℕ) (segments : List MediaSegment)
    → map (λ (s : LiveSegment). s.time) (periods.segments_from time durations segments)
    ≡ times_from time (periods.segments_from time durations segments)
goes_from time durations [] = refl
goes_from time [] (s ∷ segments) = refl
goes_from time (d ∷ durations) (s ∷ segments) = ap (λ (ts : List ℕ). time ∷ ts) (goes_from (time + d) durations segments)

-- from its first segment
goes : (time : ℕ) (durations : List ℕ) (segments : List MediaSegment)
    → map (λ (s : LiveSegment). s.time) (periods.segments_from time durations segments)
    ≡ times_from (first_time (periods.segments_from time durations segments)) (periods.segments_from time durations segments)
goes time durations [] = refl
goes time [] (s ∷ segments) = refl
goes time (d ∷ durations) (s ∷ segments) = goes_from time (d ∷ durations) (s ∷ segments)

run_goes : (s : Stretch) (ticks : TickRun) (run : LiveRun) → periods.live_run s ticks ≡ Ok run → GoesOn run
run_goes s ticks run is =
    let x = steps_of (map_of s.segments) _ run is in
    let same : periods.run_with x.value s ticks ≡ run = (let h = x.then in cc) in
    subst GoesOn same (record { times = goes ticks.first ticks.durations s.segments })

runs_go : (place : ℕ) (tracks : List (List Stretch)) (row : List TickRun) (runs : List LiveRun)
    → periods.live_runs place tracks row ≡ Ok runs → All GoesOn runs
runs_go place tracks [] runs is = subst (All GoesOn) (let none : [] ≡ runs = cc in none) (All-nil GoesOn)
runs_go place [] (r ∷ row) runs is = subst (All GoesOn) (let none : [] ≡ runs = cc in none) (All-nil GoesOn)
runs_go place (own ∷ tracks) (r ∷ row) runs is =
    let x = steps_of (periods.live_run (stretch_at place own) r) _ runs is in
    let y = steps_of (periods.live_runs place tracks row) _ runs x.then in
    let whole : x.value ∷ y.value ≡ runs = (let h = y.then in cc) in
    subst (All GoesOn) whole (All-cons GoesOn x.value y.value (run_goes (stretch_at place own) r x.value x.first)
    (runs_go place tracks row y.value y.first))

abbrev PeriodGoesOn : LivePeriod → Type 0
PeriodGoesOn period = All GoesOn period.runs

module _ (s : Snapshot) where
  periods_go : (former place : ℕ) (sections : List ℕ) (runs : List TickRun) (listed : List LivePeriod)
      → periods.periods_from s former place sections runs ≡ Ok listed → All PeriodGoesOn listed
  periods_go former place [] runs listed is =
      subst (All PeriodGoesOn) (let none : [] ≡ listed = cc in none) (All-nil PeriodGoesOn)
  periods_go former place (number ∷ sections) runs listed is =
      let row = take (length s.tracks) runs in
      let rest = drop (length s.tracks) runs in
      let x = steps_of (periods.period_of s former number place row) _ listed is in
      let y = steps_of (periods.periods_from s (end_of x.value) (place + 1) sections rest) _ listed x.then in
      let whole : x.value ∷ y.value ≡ listed = (let h = y.then in cc) in
      let a = steps_of (extent_of (known_in number s.periods) former (periods.longest_of row)) _ x.value x.first in
      let b = steps_of (periods.runs_at s place row) _ x.value a.then in
      let same : record { number = number; start = a.value.start; longest = a.value.longest; runs = b.value } ≡ x.value =
      (let h = b.then in cc) in
      let here : PeriodGoesOn x.value = subst PeriodGoesOn same (runs_go place s.tracks row b.value b.first) in
      subst (All PeriodGoesOn) whole (All-cons PeriodGoesOn x.value y.value here
      (periods_go (end_of x.value) (place + 1) sections rest y.value y.first))

module _ (folder : List ℕ) (former : Option Followed) (all : List Source) (round : Round) (new : Followed)
    (parts : OwnParts folder former all round new) where
  pub go_on : All PeriodGoesOn new.mpd.periods
  go_on = subst (All PeriodGoesOn) (sym (listed_are folder former all round new parts))
      (periods_go (snapshot folder former all round new parts) (last_end (periods_of former)) 0 parts.sections parts.runs parts.listed
      parts.periods)

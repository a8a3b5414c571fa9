-- How new segments go on behind the last ones, track by track.
use Rattle.std.proofs.{Common.{◌≡◌, ℕ, ◌+◌, ◌&&◌, ◌==◌, List, [], ◌∷◌, map, Some, refl}, lemmas.Option.same_Some}
use Rattle.timeline.specs.{Expansions.Timing, Faults.is_apart}
use Rattle.followed.specs.Durations.{Last}
use Rattle.live_meaning.specs.{Segments.Segment, Histories.Common, States.new_of, Refusals.{Refusal, Step, step_behind, steps_told}}
use Rattle.live_meaning.specs.Refusals.{told_if}
use Rattle.live_judge.specs.{declared.track.LiveTrack.LiveTrack, New.IsFirstNew, Shown.track_shown, Walk.each}

abbrev pub step_at : Common → ℕ → LiveTrack → List Refusal
step_at c t x = step_behind t (track_shown x).last (new_of c t (track_shown x))

pub steps_each : (c : Common) (t : ℕ) (ts : List LiveTrack) → steps_told c t (map track_shown ts) ≡ each (step_at c) t ts
unfolding each
steps_each c t [] = refl
steps_each c t (x ∷ ts) = rw (steps_each c (t + 1) ts) refl

pub step_told : (t : ℕ) (l : Last) (xs : List Segment) (number : ℕ) (times : Timing) → IsFirstNew number times xs
    → step_behind t (Some l) xs ≡ told_if (number == l.section && is_apart (Some l.end) (record { start = times.start; end = times.end }))
    (Step t l.end times.start)
step_told t l [] number times first = absurd (let never = first.first in cc)
step_told t l (x ∷ xs) number times first =
    let same : x ≡ first.segment = same_Some x first.segment first.first in
    rw (same, ← first.timed, ← first.numbered) refl

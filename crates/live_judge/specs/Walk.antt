-- Rules that are checked for each track in turn.
use Rattle.live_judge.specs.declared.walk.Rule.TheVariants as rules
use Rattle.std.specs.Prelude.{ℕ, ◌+◌, ◌==◌, not, nat_lt, List, [], ◌∷◌, ◌++◌, flat_map}
use Rattle.presentation.specs.Counting.{sections_of}
use Rattle.live_meaning.specs.{Updates.unit_of, States.{Track, kept_and_new, new_durations, new_of}, Refusals.{Refusal, Uneven, Window}}
use Rattle.live_meaning.specs.Refusals.{count_kept, counts_kept, long_told, over_in_track, rewritten_in, rewritten_told, step_behind}
use Rattle.live_meaning.specs.Refusals.{steps_told, told_if, uneven_from}
use Rattle.live_judge.specs.{declared.coming.Next.Next, declared.track.LiveTrack.LiveTrack, declared.walk.Rule.Rule, Changed.AreUnmoved}
use Rattle.live_judge.specs.{Coming.{IsJoined, coming_of, p_of}, Long.longs_told, Rewriting.EndAtTimes, Shown.{common_shown, track_shown}}

-- what a rule requires
abbrev pub IsReady : Rule → Next → Type 0
IsReady rules.Rewritten n = EndAtTimes (p_of n) × AreUnmoved (n.standing.now).known (p_of n) n.place
IsReady rules.Step n = Unit {0}
IsReady (rules.Even place) n = Unit {0}
IsReady rules.Long n = IsJoined n
IsReady rules.Room n = IsJoined n

-- the errors of tracks, given the index of the first one
abbrev pub told_by : Rule → Next → (track : ℕ) → List Track → List Refusal
told_by rules.Rewritten n t tracks = rewritten_told (common_shown n.standing.now) (p_of n) t tracks
told_by rules.Step n t tracks = steps_told (coming_of n) t tracks
told_by (rules.Even place) n t tracks = uneven_from place t tracks
told_by rules.Long n t tracks = long_told (coming_of n) t tracks
told_by rules.Room n t tracks = over_in_track t (counts_kept (coming_of n) t tracks)

-- and of one of them
unfoldable pub told_at : Rule → Next → (track : ℕ) → LiveTrack → List Refusal
told_at rules.Rewritten n t x = flat_map (rewritten_in (common_shown n.standing.now) (p_of n) t (track_shown x)) (sections_of (p_of n))
told_at rules.Step n t x = step_behind t (track_shown x).last (new_of (coming_of n) t (track_shown x))
told_at (rules.Even place) n t x = told_if (not (place == (track_shown x).place)) (Uneven t place (track_shown x).place)
told_at rules.Long n t x = longs_told (unit_of (coming_of n).terms) (coming_of n).target (new_durations (coming_of n) t (track_shown x))
told_at rules.Room n t x = let count = count_kept (coming_of n) (kept_and_new (coming_of n) t (track_shown x)) in
    told_if (nat_lt 20000 count) (Window t count)

unfoldable pub each : (ℕ → LiveTrack → List Refusal) → (track : ℕ) → List LiveTrack → List Refusal
each told t [] = []
each told t (x ∷ xs) = told t x ++ each told (t + 1) xs

-- The segments of a Representation with `@duration`: ISO/IEC 23009-1, 5.3.9.5.2. Their times are relative to the Period's
-- start.
use Rattle.std.specs.Prelude.{ℕ, zero, suc, ◌+◌, ◌*◌, pos, List, [], ◌∷◌, map}
use Rattle.exact_time.specs.{Time.{Time, in_units, nanoseconds}, Tick.time_of}
use Rattle.timeline.specs.{declared.entry.End.End, declared.entry.End.TheVariants.{At, Unbounded}, declared.span.Span.Span, Ratios.earlier}
use Rattle.timeline.specs.{Ratios.steps_to_cover, Expansions.{Extent, Member, Closed, Endless}}

-- segment k lasts from k * D to (k + 1) * D
abbrev pub extent_at : ℕ → ℕ → ℕ → Extent
extent_at ticks duration k = record { start = in_units ticks (k * duration); end = in_units ticks ((k + 1) * duration) }

-- the last segment ends at a time, where that is earlier
abbrev pub cut_at : Time → List Extent → List Extent
cut_at bound [] = []
cut_at bound (x ∷ []) = record { start = x.start; end = earlier x.end bound } ∷ []
cut_at bound (x ∷ y ∷ ys) = x ∷ cut_at bound (y ∷ ys)

-- a number of segments from segment k on
unfoldable pub extents_by : ℕ → ℕ → ℕ → ℕ → List Extent
extents_by ticks duration k zero = []
extents_by ticks duration k (suc count) = extent_at ticks duration k ∷ extents_by ticks duration (k + 1) count

abbrev pub cut_by : End → List Extent → List Extent
cut_by Unbounded xs = xs
cut_by (At length) xs = cut_at (nanoseconds (pos length)) xs

-- one segment for each name
abbrev pub expansion_of_names : ℕ → End → ℕ → ℕ → List Member
expansion_of_names ticks end duration count = map Closed (cut_by end (extents_by ticks duration 0 count))

-- as many segments as it takes to the Period's end; the last one ends there
abbrev pub expansion_of_duration : ℕ → End → ℕ → List Member
expansion_of_duration ticks Unbounded duration = Endless (extent_at ticks duration 0) ∷ []
expansion_of_duration ticks (At length) duration =
    expansion_of_names ticks (At length) duration (steps_to_cover (nanoseconds (pos length)) (in_units ticks duration))

abbrev pub extent_of : Span → Extent
extent_of span = record { start = time_of span.start; end = time_of span.end }

-- segments with given times
abbrev pub expansion_of_list : List Span → List Member
expansion_of_list spans = map (λ span. Closed (extent_of span)) spans

-- When Periods start, in the media times of their tracks (ISO/IEC 23009-1, 5.3.9.2).
use Rattle.std.specs.Prelude.{ℕ, ◌*◌, ◌≤◌, List, length, take, drop, All}
use Rattle.segment_forms.specs.declared.form.Form.{Form, TheVariants.{Plain, Players}}
use Rattle.presentation.specs.Presented.{Presented}
use Rattle.fragment_times.specs.{declared.period_start.PeriodStart.PeriodStart, declared.period_start.PeriodStart.TheVariants.{Own, Shared}}
use Rattle.fragment_times.specs.{declared.times.SegmentTimes.SegmentTimes, Origins.{IsBeginning, first_of, offset_in, origin_of}}
use Rattle.fragment_times.specs.Times.{IsScaled}

-- for players all tracks of a Period begin at one time
abbrev pub start_of : Form → (tracks : List SegmentTimes) → PeriodStart
start_of Plain tracks = Own
start_of Players tracks = Shared (origin_of tracks)

-- the Period's start in a track's ticks
abbrev pub offset_by : PeriodStart → SegmentTimes → ℕ
offset_by Own track = first_of track
offset_by (Shared origin) track = offset_in origin track.scale

-- the Period doesn't start after a track's first segment
abbrev pub IsStartOf : PeriodStart → SegmentTimes → Type 0
IsStartOf Own track = Unit {0}
IsStartOf (Shared origin) track = IsBeginning origin track

-- ---- of the sections of a presentation

-- the times of a section's tracks
abbrev pub times_in : Presented → List SegmentTimes → (s : ℕ) → List SegmentTimes
times_in p times s = take (length p.tracks) (drop (s * length p.tracks) times)

abbrev pub start_in : Form → Presented → List SegmentTimes → (s : ℕ) → PeriodStart
start_in form p times s = start_of form (times_in p times s)

-- ---- laws

-- no Period starts after the first segment of one of its tracks
abbrev pub StartsAreBefore : Type 0
StartsAreBefore = (form : Form) (tracks : List SegmentTimes) → All IsScaled tracks →
    All (λ (track : SegmentTimes). offset_by (start_of form tracks) track ≤ first_of track) tracks

-- One time origin for the tracks of a Period (ISO/IEC 23009-1, 5.3.9.2): a media time that each track can state in whole ticks.
use Rattle.std.specs.Prelude.{◌≡◌, ◌==◌, ℕ, ◌+◌, ◌*◌, ◌/◌, ◌%◌, ◌<◌, ◌≤◌, min, Bool, List, [], ◌∷◌, length, get_or, All, Any}
use Rattle.std.specs.{Int.◌∣◌, List.list_all}
use Rattle.exact_time.specs.Floor.{greatest_of}
use Rattle.fragment_times.specs.{declared.origin.Origin.Origin, declared.times.SegmentTimes.SegmentTimes, Times.IsScaled}

-- when a track's first segment begins, in ticks; a track without segments begins at 0
abbrev pub first_of : SegmentTimes → ℕ
first_of track = get_or track.starts 0 0

-- ---- the unit

-- does a number divide each of the timescales?
abbrev pub divides_all : List SegmentTimes → (n : ℕ) → Bool
divides_all tracks n = list_all (λ (track : SegmentTimes). track.scale % n == 0) tracks

-- How many units make a second: the greatest number that divides each of the timescales. It isn't above the first one.
abbrev pub unit_of : List SegmentTimes → ℕ
unit_of [] = 0
unit_of (track ∷ others) = greatest_of (divides_all (track ∷ others)) track.scale

-- ---- the count

-- how many whole units go by up to a track's first segment; a unit is `track.scale / unit` ticks
abbrev pub units_in : (unit : ℕ) → SegmentTimes → ℕ
units_in unit track = first_of track / (track.scale / unit)

-- the least of a former number and of those of some tracks
abbrev pub least_behind : (former unit : ℕ) → List SegmentTimes → ℕ
least_behind former unit [] = former
least_behind former unit (track ∷ others) = least_behind (min former (units_in unit track)) unit others

-- the least of the tracks' numbers
abbrev pub count_of : (unit : ℕ) → List SegmentTimes → ℕ
count_of unit [] = 0
count_of unit (track ∷ others) = least_behind (units_in unit track) unit others

-- ---- the origin

-- the last time, in whole units, that isn't after any track's first segment
abbrev pub origin_of : List SegmentTimes → Origin
origin_of tracks = record { count = count_of (unit_of tracks) tracks; unit = unit_of tracks }

-- an origin in the ticks of a timescale
abbrev pub offset_in : Origin → (scale : ℕ) → ℕ
offset_in origin scale = origin.count * (scale / origin.unit)

-- a unit is at least one tick of a track
pub record IsUnit (unit : ℕ) (track : SegmentTimes) : Type 0 where
  pub some : 0 < unit
  pub whole : 0 < track.scale / unit

-- the origin isn't after a track's first segment
pub record IsBeginning (origin : Origin) (track : SegmentTimes) : Type 0 where
  pub some : 0 < origin.unit
  pub before : offset_in origin track.scale ≤ first_of track

-- ---- laws

-- a number divides a track's timescale
abbrev pub IsMultipleOf : (n : ℕ) → SegmentTimes → Type 0
IsMultipleOf n track = n ∣ track.scale

-- the unit is the greatest common divisor of the timescales: each number that divides them all divides it
pub record IsCommonUnit (tracks : List SegmentTimes) (unit : ℕ) : Type 0 where
  pub divides : All (IsMultipleOf unit) tracks
  pub greatest : (n : ℕ) → All (IsMultipleOf n) tracks → n ∣ unit

abbrev pub UnitsAreCommon : Type 0
UnitsAreCommon = (tracks : List SegmentTimes) → All IsScaled tracks → IsCommonUnit tracks (unit_of tracks)

-- the offsets of two tracks, over their timescales, are one time
abbrev pub HaveOneOffset : Origin → SegmentTimes → SegmentTimes → Type 0
HaveOneOffset origin one other = offset_in origin one.scale * other.scale ≡ offset_in origin other.scale * one.scale

-- and so are those of all tracks
abbrev pub OffsetsAreOneTime : Type 0
OffsetsAreOneTime = (tracks : List SegmentTimes) → All IsScaled tracks → let origin = origin_of tracks in
    All (λ (one : SegmentTimes). All (HaveOneOffset origin one) tracks) tracks

-- no track's first segment begins before its offset
abbrev pub OffsetsAreBefore : Type 0
OffsetsAreBefore = (tracks : List SegmentTimes) → All IsScaled tracks →
    All (λ (track : SegmentTimes). offset_in (origin_of tracks) track.scale ≤ first_of track) tracks

-- a time of so many units is after a track's first start
abbrev pub IsReached : (unit count : ℕ) → SegmentTimes → Type 0
IsReached unit count track = first_of track * unit < count * track.scale

-- some track's first segment begins less than `1 / unit` seconds after the origin
abbrev pub OriginsAreNear : Type 0
OriginsAreNear = (tracks : List SegmentTimes) → All IsScaled tracks → 0 < length tracks → let origin = origin_of tracks in
    Any (IsReached origin.unit (origin.count + 1)) tracks

-- a time of so many units isn't after a track's first start
abbrev pub IsAtMost : (unit count : ℕ) → SegmentTimes → Type 0
IsAtMost unit count track = count * track.scale ≤ first_of track * unit

-- no later number of units is at or before each track's first segment
abbrev pub OriginsAreLatest : Type 0
OriginsAreLatest = (tracks : List SegmentTimes) → All IsScaled tracks → 0 < length tracks → let origin = origin_of tracks in
    (count : ℕ) → All (IsAtMost origin.unit count) tracks → count ≤ origin.count

-- the offset is the track's first start
abbrev pub IsFirst : Origin → SegmentTimes → Type 0
IsFirst origin track = offset_in origin track.scale ≡ first_of track

-- a track alone begins at its offset
abbrev pub AloneIsFirst : Type 0
AloneIsFirst = (track : SegmentTimes) → IsScaled track → IsFirst (origin_of (track ∷ [])) track

-- the first starts of two tracks, over their timescales, are one time
abbrev pub BeginTogether : SegmentTimes → SegmentTimes → Type 0
BeginTogether one other = first_of one * other.scale ≡ first_of other * one.scale

-- tracks that begin together begin at their offsets
abbrev pub TogetherAreFirst : Type 0
TogetherAreFirst = (tracks : List SegmentTimes) → All IsScaled tracks
    → All (λ (one : SegmentTimes). All (BeginTogether one) tracks) tracks → All (IsFirst (origin_of tracks)) tracks

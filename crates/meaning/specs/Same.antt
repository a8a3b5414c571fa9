-- When two manifests mean the same.
use Rattle.std.specs.Prelude.{◌≡◌, ◌⊎◌, ℕ, List, [], ◌∷◌, Option, Some, None}
use Rattle.exact_time.specs.{Time.{Time, IsTime, IsSame, difference, in_units, seconds}, Floor.floor_in}
use Rattle.meaning.specs.Meanings.{Segment, Entry, Track, Meaning}

-- lists of the same length, whose members are related pairwise
abbrev pub Pairwise : {A B : Type 0} → (A → B → Type 0) → List A → List B → Type 0
Pairwise R [] [] = Unit {0}
Pairwise R (x ∷ xs) (y ∷ ys) = R x y × Pairwise R xs ys
Pairwise R xs ys = ⊥

-- the start of the first segment, the origin of the times of an entry
abbrev pub begin_of : List Segment → Time
begin_of [] = seconds 0
begin_of (x ∷ xs) = x.start

-- the same file or byte range, and times that are alike, each relative to the start of its own entry
pub record SameSegment (Alike : Time → Time → Type 0) (begin_a begin_b : Time) (a b : Segment) : Type 0 where
  pub part : a.part ≡ b.part
  pub time : Alike (difference a.end begin_a) (difference b.end begin_b)

pub record SameEntry (Alike : Time → Time → Type 0) (a b : Entry) : Type 0 where
  pub initialization : a.initialization ≡ b.initialization
  pub segments : Pairwise (SameSegment Alike (begin_of a.segments) (begin_of b.segments)) a.segments b.segments

-- an entry in both, or in neither
abbrev pub SameEntries : (Time → Time → Type 0) → Option Entry → Option Entry → Type 0
SameEntries Alike None None = Unit {0}
SameEntries Alike (Some a) (Some b) = SameEntry Alike a b
SameEntries Alike a b = ⊥

pub record SameTrack (Alike : Time → Time → Type 0) (a b : Track) : Type 0 where
  pub kind : a.kind ≡ b.kind
  pub language : a.language ≡ b.language
  pub entries : Pairwise (SameEntries Alike) a.entries b.entries

-- the same tracks in order, with the same files or byte ranges in order, and times that are alike
pub record Same (Alike : Time → Time → Type 0) (a b : Meaning) : Type 0 where
  pub sections : a.sections ≡ b.sections
  pub tracks : Pairwise (SameTrack Alike) a.tracks b.tracks

-- a time rounded down to a whole number of units; the argument is the units per second
abbrev pub rounded_down : ℕ → Time → Time
rounded_down unit x = in_units unit (floor_in unit x)

abbrev pub IsRounded : ℕ → Time → Time → Type 0
IsRounded unit x y = IsSame (rounded_down unit x) y

abbrev pub IsSameOrRounded : ℕ → Time → Time → Type 0
IsSameOrRounded unit x y = IsSame x y ⊎ IsRounded unit x y

-- equal and valid times: a scale of 0 isn't valid
abbrev pub IsSameTime : Time → Time → Type 0
IsSameTime x y = IsTime x × (IsTime y × IsSame x y)

-- with equal times
abbrev pub SameExact : Meaning → Meaning → Type 0
SameExact a b = Same IsSame a b

-- with equal and valid times, relative to the start of the entries
abbrev pub SameTimed : Meaning → Meaning → Type 0
SameTimed a b = Same IsSameTime a b

-- each time of the second is that of the first rounded down
abbrev pub SameFloor : ℕ → Meaning → Meaning → Type 0
SameFloor unit a b = Same (IsRounded unit) a b

-- each time of the second is that of the first, or it rounded down
abbrev pub Agrees : ℕ → Meaning → Meaning → Type 0
Agrees unit a b = Same (IsSameOrRounded unit) a b

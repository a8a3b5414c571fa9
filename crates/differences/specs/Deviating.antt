-- Every difference of two manifests, with a tolerance of time.
use Rattle.meaning.specs.declared.difference.Aspect.TheVariants as aspect
use Rattle.differences.specs.declared.deviation.How.TheVariants as how
use Rattle.std.specs.Prelude.{ℕ, ◌+◌, ◌==◌, ◌&&◌, not, max, Bool, List, [], ◌∷◌, ◌++◌, take, length, bytes_eq, if◌then◌else◌, Option}
use Rattle.std.specs.Prelude.{Some, None}
use Rattle.std.specs.Option.{option_eq}
use Rattle.exact_time.specs.Time.{Time, difference}
use Rattle.meaning.specs.{declared.difference.Aspect.Aspect, declared.difference.Difference.Difference, Meanings.{Segment, Entry, Track}}
use Rattle.meaning.specs.{Meanings.Meaning, Same.begin_of}
use Rattle.meaning.specs.{Differences.{in_all, in_entry, in_track, is_same_kind, is_same_part, is_same_range}}
use Rattle.presentation.specs.Counting.{capped}
use Rattle.differences.specs.{declared.deviation.Deviation.Deviation, declared.deviation.Deviations.Deviations, declared.deviation.How.How}
use Rattle.differences.specs.Sizes.{apart, is_alike, size_of}

abbrev pub deviation : Difference → How → Deviation
deviation at how = record { at = at; how = how }

abbrev pub unless : Bool → Deviation → List Deviation
unless same found = if same then [] else found ∷ []

-- two numbers
abbrev pub number_deviations : Difference → (a b : ℕ) → List Deviation
number_deviations at a b = unless (a == b) (deviation at (how.Counts a b))

-- ---- segments

-- the times of two segments, each relative to the start of its entry
abbrev pub times_apart : (begin_a begin_b : Time) → (a b : Segment) → How
times_apart begin_a begin_b a b = how.Times (apart (difference a.start begin_a) (difference b.start begin_b))
    (apart (difference a.end begin_a) (difference b.end begin_b))

-- for a segment the URL, the byte range, and the time
abbrev pub segment_deviations : (within unit : ℕ) → (Aspect → Difference) → (begin_a begin_b : Time) → (a b : Segment) → List Deviation
segment_deviations within unit at begin_a begin_b a b =
    unless (bytes_eq a.part.address b.part.address) (deviation (at aspect.Address) how.Value)
    ++ (unless (option_eq is_same_range a.part.range b.part.range) (deviation (at aspect.Range) how.Value)
    ++ unless (is_alike within unit (difference a.end begin_a) (difference b.end begin_b))
    (deviation (at aspect.Time) (times_apart begin_a begin_b a b)))

-- segment by segment, then their numbers
abbrev pub segments_deviations : (within unit : ℕ) → (t s k : ℕ) → (begin_a begin_b : Time) → (xs ys : List Segment) → List Deviation
segments_deviations within unit t s k begin_a begin_b [] [] = []
segments_deviations within unit t s k begin_a begin_b (a ∷ xs) (b ∷ ys) =
    segment_deviations within unit (in_entry t s k) begin_a begin_b a b
    ++ segments_deviations within unit t s (k + 1) begin_a begin_b xs ys
segments_deviations within unit t s k begin_a begin_b xs ys =
    deviation (in_entry t s k aspect.Count) (how.Counts (k + length xs) (k + length ys)) ∷ []

-- the greatest difference of the ends of two segments at one place
abbrev pub end_apart : (begin_a begin_b : Time) → (a b : Segment) → ℕ
end_apart begin_a begin_b a b = capped (size_of (difference a.end begin_a) (difference b.end begin_b))

abbrev pub segments_greatest : (begin_a begin_b : Time) → (xs ys : List Segment) → ℕ
segments_greatest begin_a begin_b [] ys = 0
segments_greatest begin_a begin_b (a ∷ xs) [] = 0
segments_greatest begin_a begin_b (a ∷ xs) (b ∷ ys) = max (end_apart begin_a begin_b a b) (segments_greatest begin_a begin_b xs ys)

-- ---- tracks over sections

-- for an entry the init segment and the segments, or that only one has it
abbrev pub entry_deviations : (within unit : ℕ) → (t s : ℕ) → (a b : Option Entry) → List Deviation
entry_deviations within unit t s None None = []
entry_deviations within unit t s (Some a) None = deviation (in_entry t s 0 aspect.Initialization) how.Missing ∷ []
entry_deviations within unit t s None (Some b) = deviation (in_entry t s 0 aspect.Initialization) how.Extra ∷ []
entry_deviations within unit t s (Some a) (Some b) =
    unless (is_same_part a.initialization b.initialization) (deviation (in_entry t s 0 aspect.Initialization) how.Value)
    ++ segments_deviations within unit t s 0 (begin_of a.segments) (begin_of b.segments) a.segments b.segments

abbrev pub entry_greatest : (a b : Option Entry) → ℕ
entry_greatest (Some a) (Some b) = segments_greatest (begin_of a.segments) (begin_of b.segments) a.segments b.segments
entry_greatest None b = 0
entry_greatest (Some a) None = 0

-- section by section, up to the last one of either
abbrev pub entries_deviations : (within unit : ℕ) → (t s : ℕ) → (xs ys : List (Option Entry)) → List Deviation
entries_deviations within unit t s [] [] = []
entries_deviations within unit t s (a ∷ xs) (b ∷ ys) =
    entry_deviations within unit t s a b ++ entries_deviations within unit t (s + 1) xs ys
entries_deviations within unit t s (a ∷ xs) [] =
    entry_deviations within unit t s a None ++ entries_deviations within unit t (s + 1) xs []
entries_deviations within unit t s [] (b ∷ ys) =
    entry_deviations within unit t s None b ++ entries_deviations within unit t (s + 1) [] ys

abbrev pub entries_greatest : (xs ys : List (Option Entry)) → ℕ
entries_greatest [] ys = 0
entries_greatest (a ∷ xs) [] = 0
entries_greatest (a ∷ xs) (b ∷ ys) = max (entry_greatest a b) (entries_greatest xs ys)

-- the kind and the language of a track
abbrev pub head_deviations : (t : ℕ) → (is_kind is_language : Bool) → List Deviation
head_deviations t is_kind is_language = unless (is_kind && is_language)
    (deviation (in_track t aspect.Track) (how.Head (not is_kind) (not is_language)))

-- track by track, their kinds and languages, or that only one has it
abbrev pub heads_deviations : (t : ℕ) → (xs ys : List Track) → List Deviation
heads_deviations t [] [] = []
heads_deviations t (a ∷ xs) [] = deviation (in_track t aspect.Track) how.Missing ∷ heads_deviations (t + 1) xs []
heads_deviations t [] (b ∷ ys) = deviation (in_track t aspect.Track) how.Extra ∷ heads_deviations (t + 1) [] ys
heads_deviations t (a ∷ xs) (b ∷ ys) =
    head_deviations t (is_same_kind a.kind b.kind) (option_eq bytes_eq a.language b.language) ++ heads_deviations (t + 1) xs ys

-- track by track, the content of those that both have
abbrev pub tracks_deviations : (within unit : ℕ) → (t : ℕ) → (xs ys : List Track) → List Deviation
tracks_deviations within unit t [] ys = []
tracks_deviations within unit t (a ∷ xs) [] = []
tracks_deviations within unit t (a ∷ xs) (b ∷ ys) =
    entries_deviations within unit t 0 a.entries b.entries ++ tracks_deviations within unit (t + 1) xs ys

abbrev pub tracks_greatest : (xs ys : List Track) → List ℕ
tracks_greatest [] ys = []
tracks_greatest (a ∷ xs) [] = []
tracks_greatest (a ∷ xs) (b ∷ ys) = entries_greatest a.entries b.entries ∷ tracks_greatest xs ys

-- ---- presentations

-- What differs of the second, where a time differs that is neither that of the first, nor it rounded down, nor within a
-- tolerance in nanoseconds: the number of sections, the number of tracks, the kind and language of each track, and then
-- its content, by track and section.
unfoldable pub deviations : (within unit : ℕ) → (a b : Meaning) → List Deviation
deviations within unit a b =
    number_deviations (in_all aspect.Sections) a.sections b.sections
    ++ (number_deviations (in_all aspect.Tracks) (length a.tracks) (length b.tracks)
    ++ (heads_deviations 0 a.tracks b.tracks ++ tracks_deviations within unit 0 a.tracks b.tracks))

-- the first ones, how many there are, and the greatest difference of each track
abbrev pub told : (most within unit : ℕ) → (a b : Meaning) → Deviations
told most within unit a b = record {
  first = take most (deviations within unit a b);
  count = capped (length (deviations within unit a b));
  greatest = tracks_greatest a.tracks b.tracks;
}

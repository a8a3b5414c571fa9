-- The first difference of two manifests.
use Rattle.meaning.specs.declared.difference.Aspect.TheVariants as aspect
use Rattle.std.specs.Prelude.{ℕ, ◌+◌, ◌==◌, ◌&&◌, ◌||◌, Bool, List, [], ◌∷◌, length, bytes_eq, if◌then◌else◌, Option, Some, None}
use Rattle.std.specs.{Ordering.int_eq, Option.{option_eq, option_or}}
use Rattle.exact_time.specs.Time.{Time, cross, difference}
use Rattle.bridge_io.specs.{declared.media.Kind.Kind, declared.media.Kind.TheVariants.{Video, Audio, Text}}
use Rattle.url_parts.specs.{declared.address.Part.Part, declared.range.Range.Range}
use Rattle.meaning.specs.{declared.difference.Aspect.Aspect, declared.difference.Difference.Difference, Meanings.{Segment, Entry, Track}}
use Rattle.meaning.specs.{Meanings.Meaning, Same.{begin_of, rounded_down}}

-- ---- tests of what is compared

abbrev pub rank_of : Kind → ℕ
rank_of Video = 0
rank_of Audio = 1
rank_of Text = 2

abbrev pub is_same_kind : Kind → Kind → Bool
is_same_kind a b = rank_of a == rank_of b

abbrev pub is_same_range : Range → Range → Bool
is_same_range a b = a.first == b.first && a.count == b.count

abbrev pub is_same_part : Part → Part → Bool
is_same_part a b = bytes_eq a.address b.address && option_eq is_same_range a.range b.range

abbrev pub is_same_time : Time → Time → Bool
is_same_time x y = int_eq (cross x y) (cross y x)

abbrev pub is_same_or_rounded : ℕ → Time → Time → Bool
is_same_or_rounded unit x y = is_same_time x y || is_same_time (rounded_down unit x) y

abbrev pub is_same_head : Track → Track → Bool
is_same_head a b = is_same_kind a.kind b.kind && option_eq bytes_eq a.language b.language

-- ---- the first difference

abbrev pub unless : Bool → Difference → Option Difference
unless same found = if same then None else Some found

-- a difference of the whole, of a track, or of a track in a section
abbrev pub in_all : Aspect → Difference
in_all what = record { what = what; section = 0; track = 0; segment = 0 }

abbrev pub in_track : ℕ → Aspect → Difference
in_track t what = record { what = what; section = 0; track = t; segment = 0 }

abbrev pub in_entry : ℕ → ℕ → ℕ → Aspect → Difference
in_entry t s k what = record { what = what; section = s; track = t; segment = k }

-- for a segment first the URL, then the byte range, then the time
abbrev pub segment_difference : ℕ → (Aspect → Difference) → (begin_a begin_b : Time) → (a b : Segment) → Option Difference
segment_difference unit at begin_a begin_b a b =
    option_or (unless (bytes_eq a.part.address b.part.address) (at aspect.Address))
    (option_or (unless (option_eq is_same_range a.part.range b.part.range) (at aspect.Range))
    (unless (is_same_or_rounded unit (difference a.end begin_a) (difference b.end begin_b)) (at aspect.Time)))

-- segment by segment, then their number
abbrev pub segments_difference : ℕ → ℕ → ℕ → ℕ → (begin_a begin_b : Time) → (xs ys : List Segment) → Option Difference
segments_difference unit t s k begin_a begin_b [] [] = None
segments_difference unit t s k begin_a begin_b (a ∷ xs) (b ∷ ys) =
    option_or (segment_difference unit (in_entry t s k) begin_a begin_b a b) (segments_difference unit t s (k + 1) begin_a begin_b xs ys)
segments_difference unit t s k begin_a begin_b xs ys = Some (in_entry t s k aspect.Count)

-- for an entry first the init segment
abbrev pub entry_difference : ℕ → ℕ → ℕ → (a b : Option Entry) → Option Difference
entry_difference unit t s None None = None
entry_difference unit t s (Some a) (Some b) =
    option_or (unless (is_same_part a.initialization b.initialization) (in_entry t s 0 aspect.Initialization))
    (segments_difference unit t s 0 (begin_of a.segments) (begin_of b.segments) a.segments b.segments)
entry_difference unit t s a b = Some (in_entry t s 0 aspect.Initialization)

-- section by section
abbrev pub entries_difference : ℕ → ℕ → ℕ → (xs ys : List (Option Entry)) → Option Difference
entries_difference unit t s [] [] = None
entries_difference unit t s (a ∷ xs) (b ∷ ys) = option_or (entry_difference unit t s a b) (entries_difference unit t (s + 1) xs ys)
entries_difference unit t s xs ys = Some (in_entry t s 0 aspect.Initialization)

-- track by track, their kinds and languages
abbrev pub heads_difference : ℕ → (xs ys : List Track) → Option Difference
heads_difference t [] ys = None
heads_difference t (a ∷ xs) [] = None
heads_difference t (a ∷ xs) (b ∷ ys) = option_or (unless (is_same_head a b) (in_track t aspect.Track)) (heads_difference (t + 1) xs ys)

-- track by track, their content
abbrev pub tracks_difference : ℕ → ℕ → (xs ys : List Track) → Option Difference
tracks_difference unit t [] ys = None
tracks_difference unit t (a ∷ xs) [] = None
tracks_difference unit t (a ∷ xs) (b ∷ ys) = option_or (entries_difference unit t 0 a.entries b.entries)
    (tracks_difference unit (t + 1) xs ys)

-- The first difference where the second neither means the same as the first nor rounds its times down: the number of
-- sections, the number of tracks, the kind and language of each track, and then its content, by track and section.
unfoldable pub first_difference : ℕ → Meaning → Meaning → Option Difference
first_difference unit a b =
    option_or (unless (a.sections == b.sections) (in_all aspect.Sections))
    (option_or (unless (length a.tracks == length b.tracks) (in_all aspect.Tracks))
    (option_or (heads_difference 0 a.tracks b.tracks) (tracks_difference unit 0 a.tracks b.tracks)))

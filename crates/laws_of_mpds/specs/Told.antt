-- What the segments of a Representation are read as (ISO/IEC 23009-1, 5.3.9).
use Rattle.std.specs.Prelude.{◌≡◌, ℕ, ◌+◌, ◌^◌, ◌<◌, ◌≤◌, pos, Bool, true, false, List, [], ◌∷◌, ◌++◌, length, map, codes, bytes_eq, Option}
use Rattle.std.specs.{Prelude.{Some, None, unwrap_or, IfSome}, List.{list_all, AllByRecursion}}
use Rattle.bridge_io.specs.declared.place.Place.{Place}
use Rattle.url_parts.specs.{declared.address.Part.Part, declared.range.Range.Range}
use Rattle.timeline.specs.{Expansions.{SegmentTimeline, Timing}, Listed.part_of_timing}
use Rattle.segment_forms.specs.{declared.form.Form.Form, declared.form.Form.TheVariants.{Plain, Players}, Media.{doubled, media_of}}
use Rattle.segment_forms.specs.declared.pattern.Pattern.{Pattern}
use Rattle.mpd_entries.specs.{declared.entry.SEntry.SEntry, declared.ref_part.RefPart.RefPart}
use Rattle.mpd_tree.specs.{Trees.Element, Placed.{past, head_at, placed}, Markup.{Tag, opening}}
use Rattle.mpd_levels.specs.Segments.{Segments, if_any, segments_of}
use Rattle.dash_writer.specs.{Elements.{Element as Written, in_order}, Forms.{addresses_of, own_segments, pattern_in, segments_with}}
use Rattle.dash_writer.specs.{Lists.parts_of, Runs.longest_runs, Segments.{duration_of, joins, part_or_none}}

-- ---- elements

-- an element that is written at a position
abbrev pub read_at : Place → Written → Element
read_at here x = record { head = head_at here x.0 x.1; children = placed (past here (opening x.0 ++ codes ">")) x.1 }

-- ---- segments

-- an S (5.3.9.6)
abbrev pub run_told : (time : Option ℕ) → (duration repeats : ℕ) → SEntry
run_told time duration repeats = record { t = time; d = duration; r = pos repeats }

abbrev pub run_of : (time : Option ℕ) → List ℕ → List SEntry
run_of time [] = []
run_of time (duration ∷ others) = run_told time duration (length others) ∷ []

abbrev pub runs_of : (time : Option ℕ) → List (List ℕ) → List SEntry
runs_of time [] = []
runs_of time (run ∷ runs) = run_of time run ++ runs_of None runs

abbrev pub url_of : Part → RefPart
url_of part = record { reference = Some part.address; range = part.range }

-- segments of these durations and files: the media time of the Period's start, and that of the first segment; where segments
-- are joined, an S for each longest run of equal durations, otherwise for each segment
abbrev pub list_told : (joined : Bool) → (ticks offset first : ℕ) → Part → (durations : List ℕ) → List Part → Segments
list_told joined ticks offset first initialization durations parts = record {
  is_list = true;
  media = None;
  timescale = ticks;
  duration = None;
  start_number = 1;
  time_offset = offset;
  timeline = Some (runs_of (Some first) (longest_runs (joins joined) durations));
  urls = if_any (map url_of parts);
  init_template = None;
  init_reference = Some initialization.address;
  init_range = initialization.range;
  has_initialization = true;
}

-- the same by a template: the init segment's address, the media text, and the first segment's number
abbrev pub template_told : (ticks offset first : ℕ) → (initialization media : List ℕ) → (number : ℕ) → (durations : List ℕ) → Segments
template_told ticks offset first initialization media number durations = record {
  is_list = false;
  media = Some media;
  timescale = ticks;
  duration = None;
  start_number = number;
  time_offset = offset;
  timeline = Some (runs_of (Some first) (longest_runs (joins true) durations));
  urls = None;
  init_template = Some (doubled initialization);
  init_reference = None;
  init_range = None;
  has_initialization = false;
}

-- ---- segments in a form of MPDs

-- by the pattern of the files, where they have one
abbrev pub players_told : Option Pattern → (ticks offset first : ℕ) → Part → (durations : List ℕ) → List Part → Segments
players_told None ticks offset first initialization durations parts = list_told false ticks offset first initialization durations parts
players_told (Some p) ticks offset first initialization durations parts =
    template_told ticks offset first initialization.address (media_of (addresses_of parts)) p.first_number durations

abbrev pub segments_told : Form → (ticks offset first : ℕ) → Part → (durations : List ℕ) → List Part → Segments
segments_told Plain ticks offset first initialization durations parts = list_told true ticks offset first initialization durations parts
segments_told Players ticks offset first initialization durations parts =
    players_told (pattern_in initialization parts) ticks offset first initialization durations parts

-- ---- values that are read back as they were written

-- at least one byte, with offsets below 2^63
pub record IsSomeBytes (range : Range) : Type 0 where
  pub some : 0 < range.count
  pub bounded : range.first + range.count ≤ 2 ^ 63

abbrev pub IsReadable : Part → Type 0
IsReadable part = IfSome part.range IsSomeBytes

-- a number of at most 64 digits
abbrev pub IsShort : ℕ → Type 0
IsShort n = n < 10 ^ 64

pub record AreReadable (timeline : SegmentTimeline) (part : Part) (listed : List Timing) : Type 0 where
  pub ticks : IsShort timeline.ticks
  pub initialization : IsReadable part
  pub durations : AllByRecursion IsShort (map duration_of listed)
  pub few : IsShort (length listed)
  pub parts : AllByRecursion (λ x. IsReadable (part_or_none (part_of_timing timeline x))) listed

-- the same for segments with times of their own
pub record AreReadableTimes (scale : ℕ) (start : Option ℕ) (begin : ℕ) (map_part : Part) (lengths : List ℕ)
    (files : List Part) : Type 0 where
  pub ticks : IsShort scale
  pub offset : IfSome start IsShort
  pub first : IsShort begin
  pub initialization : IsReadable map_part
  pub durations : AllByRecursion IsShort lengths
  pub few : IsShort (length lengths)
  pub parts : AllByRecursion IsReadable files

-- the values that were written for a timeline
abbrev pub told_of : Form → SegmentTimeline → Part → List Timing → Segments
told_of form timeline part listed = segments_told form timeline.ticks 0 0 part (map duration_of listed) (parts_of timeline listed)

-- ---- a Representation in its AdaptationSet and its Period

abbrev pub is_named : List ℕ → Written → Bool
is_named name x = bytes_eq x.0.name name

-- all elements have this name
abbrev pub AreNamed : List ℕ → List Written → Type 0
AreNamed name xs = list_all (is_named name) xs ≡ true

-- Its only child has the segments; its AdaptationSet has only Representations, and its Period only AdaptationSets.
abbrev pub ListsAreRead : Type 0
ListsAreRead = (form : Form) (timeline : SegmentTimeline) (part : Part) (listed : List Timing) (representation set period : Tag)
    (representations sets : List Written)
    (a b c : Place)
    → AreReadable timeline part listed → AreNamed (codes "Representation") representations → AreNamed (codes "AdaptationSet") sets
    → segments_of (read_at a (representation, in_order (own_segments form timeline part listed ∷ [])) ∷ read_at b
    (set, in_order representations) ∷ read_at c
    (period, in_order sets) ∷ [])
    ≡ Some (told_of form timeline part listed)

-- The same at any timescale, with any media time of the Period's start and of the first segment: a missing time of the
-- start is 0.
abbrev pub TimedListsAreRead : Type 0
TimedListsAreRead = (form : Form) (ticks : ℕ) (offset : Option ℕ) (first : ℕ) (part : Part) (durations : List ℕ) (parts : List Part)
    (representation set period : Tag)
    (representations sets : List Written) (a b c : Place)
    → AreReadableTimes ticks offset first part durations parts → AreNamed (codes "Representation") representations
    → AreNamed (codes "AdaptationSet") sets
    → segments_of (read_at a (representation, in_order (segments_with form ticks offset first part durations parts ∷ []))
    ∷ read_at b (set, in_order representations) ∷ read_at c (period, in_order sets) ∷ [])
    ≡ Some (segments_told form ticks (unwrap_or offset 0) first part durations parts)

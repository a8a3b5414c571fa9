-- How the segments of a Representation are addressed one by one: ISO/IEC 23009-1, 5.3.9.
use Rattle.mpd_levels.specs.declared.level.Means.TheVariants as means
use Rattle.std.specs.Prelude.{ℕ, pos, ◌||◌, ◌&&◌, not, Bool, true, false, List, [], ◌∷◌, map, codes, is_none, if◌then◌else◌, Option, Some}
use Rattle.std.specs.Prelude.{None, option_map, option_and_then, unwrap_or}
use Rattle.url_parts.specs.declared.range.Range.{Range}
use Rattle.mpd_entries.specs.{declared.entry.SEntry.SEntry, declared.ref_part.RefPart.RefPart}
use Rattle.mpd_tree.specs.Trees.{Head, Element}
use Rattle.mpd_profile.specs.Heads.{value_named}
use Rattle.mpd_levels.specs.{declared.level.Means.Means, declared.initialization.Initialization.Initialization}
use Rattle.mpd_levels.specs.declared.values.Attributes.{Attributes}
use Rattle.mpd_levels.specs.Readings.{number_named, signed_named, range_named, child_named, children_named}
use Rattle.mpd_levels.specs.Levels.{first_some, template_name, list_name, used, elements_used}

-- the merged values of elements
pub record Values : Type 0 where
  pub attributes : Attributes
  pub initialization : Option Initialization
  pub timeline : Option (List SEntry)
  pub urls : Option (List RefPart)

-- ---- the values of one element

-- an S: its time, where it has one, its duration, and how often it is repeated (5.3.9.6)
abbrev pub run_of : Element → SEntry
run_of s = record {
  t = number_named (codes "t") s.head;
  d = unwrap_or (number_named (codes "d") s.head) 0;
  r = unwrap_or (signed_named (codes "r") s.head) (pos 0);
}

-- the entries of a SegmentTimeline
abbrev pub runs_of : Element → List SEntry
runs_of timeline = map run_of (children_named (codes "S") timeline)

abbrev pub timeline_in : Element → Option (List SEntry)
timeline_in e = option_map runs_of (child_named (codes "SegmentTimeline") e)

-- a SegmentURL
abbrev pub url_of : Element → RefPart
url_of url = record { reference = value_named (codes "media") url.head; range = range_named (codes "mediaRange") url.head }

-- a list, where it isn't empty
abbrev pub if_any : {X : Type 0} → List X → Option (List X)
if_any [] = None
if_any (x ∷ xs) = Some (x ∷ xs)

abbrev pub urls_in : Element → Option (List RefPart)
urls_in e = if_any (map url_of (children_named (codes "SegmentURL") e))

-- an Initialization (5.3.9.2)
abbrev pub initialization_of : Element → Initialization
initialization_of e = record { reference = value_named (codes "sourceURL") e.head; range = range_named (codes "range") e.head }

abbrev pub initialization_in : Element → Option Initialization
initialization_in e = option_map initialization_of (child_named (codes "Initialization") e)

-- only for a template, and only for a list
abbrev pub of_template : {X : Type 0} → (is_list : Bool) → Option X → Option X
of_template true value = None
of_template false value = value

abbrev pub of_list : {X : Type 0} → (is_list : Bool) → Option X → Option X
of_list true value = value
of_list false value = None

-- the attributes of a SegmentTemplate or of a SegmentList
abbrev pub attributes_by : (is_list : Bool) → Head → Attributes
attributes_by is_list head = record {
  media = of_template is_list (value_named (codes "media") head);
  initialization = of_template is_list (value_named (codes "initialization") head);
  timescale = number_named (codes "timescale") head;
  duration = number_named (codes "duration") head;
  start_number = number_named (codes "startNumber") head;
  time_offset = number_named (codes "presentationTimeOffset") head;
}

abbrev pub urls_by : (is_list : Bool) → Element → Option (List RefPart)
urls_by is_list e = of_list is_list (urls_in e)

abbrev pub values_by : (is_list : Bool) → Element → Values
values_by is_list e = record {
  attributes = attributes_by is_list e.head;
  initialization = initialization_in e;
  timeline = timeline_in e;
  urls = urls_by is_list e;
}

-- ---- the merged values of the elements of one name: an attribute of the lowest level that has it; a timeline, an
-- Initialization and SegmentURLs as a whole from the lowest level that has them

abbrev pub attributes_in : (is_list : Bool) → List Element → Attributes
attributes_in is_list elements = record {
  media = first_some (λ e. (attributes_by is_list e.head).media) elements;
  initialization = first_some (λ e. (attributes_by is_list e.head).initialization) elements;
  timescale = first_some (λ e. (attributes_by is_list e.head).timescale) elements;
  duration = first_some (λ e. (attributes_by is_list e.head).duration) elements;
  start_number = first_some (λ e. (attributes_by is_list e.head).start_number) elements;
  time_offset = first_some (λ e. (attributes_by is_list e.head).time_offset) elements;
}

abbrev pub values_in : (is_list : Bool) → List Element → Values
values_in is_list elements = record {
  attributes = attributes_in is_list elements;
  initialization = first_some initialization_in elements;
  timeline = first_some timeline_in elements;
  urls = first_some (urls_by is_list) elements;
}

-- ---- the effective values of the used element

pub record Segments : Type 0 where
  pub is_list : Bool
  -- the template of the segment URLs; a list has none
  pub media : Option (List ℕ)
  pub timescale : ℕ
  pub duration : Option ℕ
  pub start_number : ℕ
  pub time_offset : ℕ
  pub timeline : Option (List SEntry)
  -- the SegmentURLs of a list, where there are any
  pub urls : Option (List RefPart)
  pub init_template : Option (List ℕ)
  pub init_reference : Option (List ℕ)
  pub init_range : Option Range
  -- there is an Initialization element
  pub has_initialization : Bool

-- the attribute `initialization` wins over an Initialization element
abbrev pub unless_there : {X Y : Type 0} → Option X → Option Y → Option Y
unless_there (Some x) value = None
unless_there None value = value

abbrev pub told : (is_list : Bool) → Values → Segments
told is_list values = record {
  is_list = is_list;
  media = values.attributes.media;
  timescale = unwrap_or values.attributes.timescale 1;
  duration = values.attributes.duration;
  start_number = unwrap_or values.attributes.start_number 1;
  time_offset = unwrap_or values.attributes.time_offset 0;
  timeline = values.timeline;
  urls = values.urls;
  init_template = values.attributes.initialization;
  init_reference = unless_there values.attributes.initialization
      (option_and_then (λ (i : Initialization). i.reference) values.initialization);
  init_range = unless_there values.attributes.initialization (option_and_then (λ (i : Initialization). i.range) values.initialization);
  has_initialization = not (is_none values.initialization);
}

abbrev pub segments_by : Option Means → List Element → Option Segments
segments_by (Some means.Template) levels = Some (told false (values_in false (elements_used template_name levels)))
segments_by (Some means.List) levels = Some (told true (values_in true (elements_used list_name levels)))
segments_by (Some means.Base) levels = None
segments_by None levels = None

-- of a Representation that a SegmentTemplate or a SegmentList addresses, by its levels from the lowest one on
unfoldable pub segments_of : List Element → Option Segments
segments_of levels = segments_by (used levels) levels

-- something required for segments is missing: the init segment, the template, the URLs of a list, or all times
abbrev pub is_incomplete : Segments → Bool
is_incomplete s =
    (is_none s.init_template && not s.has_initialization)
    || ((if s.is_list then is_none s.urls else is_none s.media) || (is_none s.timeline && is_none s.duration))

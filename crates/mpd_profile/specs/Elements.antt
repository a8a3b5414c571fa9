-- The elements and attributes of ISO/IEC 23009-1, 5.3 that are read. What is in none of these tables is ignored, with its
-- content.
use Rattle.std.specs.Prelude.{ℕ, ◌^◌, List, [], ◌∷◌, codes, bytes_eq, find, Option, option_map}
use Rattle.mpd_profile.specs.{declared.listed.Listed.Listed, declared.listed.Listed.TheVariants.{Mpd, BaseUrl, Period, AdaptationSet}}
use Rattle.mpd_profile.specs.declared.listed.Listed.TheVariants.{Representation, SegmentTemplate, SegmentList, SegmentBase, Initialization}
use Rattle.mpd_profile.specs.{declared.listed.Listed.TheVariants.{SegmentTimeline, S, SegmentUrl}, declared.listed.Addressing.Addressing}
use Rattle.mpd_profile.specs.{declared.listed.Addressing.TheVariants.{Segments, Index}, declared.value.Value.Value}
use Rattle.mpd_profile.specs.declared.value.Value.TheVariants.{MpdType, Instant, Duration, AnyText, Number, Signed, FrameRate, Codes}
use Rattle.mpd_profile.specs.declared.value.Value.TheVariants.{Language, Range}

-- a name with its entry
abbrev pub Named : Type 0 → Type 0
Named X = List ℕ × X

-- the entry of a name in a table: that of the first row that has it
abbrev pub named_in : {X : Type 0} → List (Named X) → List ℕ → Option X
named_in rows name = option_map (λ row. row.1) (find (λ row. bytes_eq row.0 name) rows)

-- an element with segment information may occur in a Period, an AdaptationSet and a Representation
abbrev pub segment_elements : List (Named Listed)
segment_elements =
    (codes "SegmentTemplate", SegmentTemplate) ∷ (codes "SegmentList", SegmentList) ∷ (codes "SegmentBase", SegmentBase) ∷ []

-- the elements that are read in a parent; with `sidx` addressing also those of a SegmentBase
abbrev pub children_of : Addressing → Listed → List (Named Listed)
children_of addressing Mpd = (codes "BaseURL", BaseUrl) ∷ (codes "Period", Period) ∷ []
children_of addressing Period = (codes "BaseURL", BaseUrl) ∷ (codes "AdaptationSet", AdaptationSet) ∷ segment_elements
children_of addressing AdaptationSet = (codes "BaseURL", BaseUrl) ∷ (codes "Representation", Representation) ∷ segment_elements
children_of addressing Representation = (codes "BaseURL", BaseUrl) ∷ segment_elements
children_of addressing SegmentTemplate = (codes "SegmentTimeline", SegmentTimeline) ∷ (codes "Initialization", Initialization) ∷ []
children_of addressing SegmentList =
    (codes "SegmentURL", SegmentUrl) ∷ (codes "SegmentTimeline", SegmentTimeline) ∷ (codes "Initialization", Initialization) ∷ []
children_of Segments SegmentBase = []
children_of Index SegmentBase = (codes "Initialization", Initialization) ∷ []
children_of addressing SegmentTimeline = (codes "S", S) ∷ []
children_of addressing BaseUrl = []
children_of addressing Initialization = []
children_of addressing S = []
children_of addressing SegmentUrl = []

-- what an AdaptationSet and its Representations may both have
abbrev pub common_attributes : List (Named Value)
common_attributes =
    (codes "mimeType", AnyText) ∷ (codes "codecs", Codes) ∷ (codes "width", Number 0 (2 ^ 32)) ∷ (codes "height", Number 0 (2 ^ 32))
    ∷ (codes "frameRate", FrameRate) ∷ []

-- how segments are numbered and timed
abbrev pub segment_attributes : List (Named Value)
segment_attributes =
    (codes "timescale", Number 1 (2 ^ 32)) ∷ (codes "duration", Number 0 (2 ^ 63)) ∷ (codes "startNumber", Number 0 (2 ^ 63))
    ∷ (codes "presentationTimeOffset", Number 0 (2 ^ 63)) ∷ []

-- the attributes that are read of an element, with their value types
abbrev pub attributes_of : Addressing → Listed → List (Named Value)
attributes_of addressing Mpd =
    (codes "type", MpdType) ∷ (codes "availabilityStartTime", Instant) ∷ (codes "publishTime", Instant)
    ∷ (codes "mediaPresentationDuration", Duration) ∷ (codes "timeShiftBufferDepth", Duration) ∷ (codes "maxSegmentDuration", Duration) ∷ []
attributes_of addressing BaseUrl = []
attributes_of addressing Period = (codes "id", AnyText) ∷ (codes "start", Duration) ∷ (codes "duration", Duration) ∷ []
attributes_of addressing AdaptationSet = (codes "lang", Language) ∷ common_attributes
attributes_of addressing Representation = (codes "id", AnyText) ∷ (codes "bandwidth", Number 1 (2 ^ 32)) ∷ common_attributes
attributes_of addressing SegmentTemplate = (codes "media", AnyText) ∷ (codes "initialization", AnyText) ∷ segment_attributes
attributes_of addressing SegmentList = segment_attributes
attributes_of Segments SegmentBase = []
attributes_of Index SegmentBase = (codes "indexRange", Range) ∷ []
attributes_of addressing Initialization = (codes "sourceURL", AnyText) ∷ (codes "range", Range) ∷ []
attributes_of addressing SegmentTimeline = []
attributes_of addressing S = (codes "t", Number 0 (2 ^ 63)) ∷ (codes "d", Number 0 (2 ^ 63)) ∷ (codes "r", Signed) ∷ []
attributes_of addressing SegmentUrl = (codes "media", AnyText) ∷ (codes "mediaRange", Range) ∷ []

-- the kind of an element by its name and its parent
abbrev pub child_of : Addressing → Listed → List ℕ → Option Listed
child_of addressing parent name = named_in (children_of addressing parent) name

-- the value type of an attribute of an element
abbrev pub value_of : Addressing → Listed → List ℕ → Option Value
value_of addressing listed name = named_in (attributes_of addressing listed) name

-- Features of ISO/IEC 23009-1 that are rejected with an error code wherever they occur.
use Rattle.mpd_profile.specs.declared.fault.RuleFault.TheVariants as fault
use Rattle.std.specs.Prelude.{ℕ, ◌&&◌, ◌||◌, Bool, true, false, List, [], ◌∷◌, ◌++◌, codes, bytes_eq, map, flat_map, if◌then◌else◌}
use Rattle.std.specs.{Prelude.{Option, Some, None, option_and_then}, List.list_any}
use Rattle.bridge_io.specs.{Texts.is_among, declared.place.Place.Place, declared.media.Kind.Kind}
use Rattle.mpd_tree.specs.Trees.{Attribute, Head}
use Rattle.mpd_values.specs.{declared.blank.Blank.TheVariants.Space, Blanks.trimmed, Codecs.has_foreign_code, MediaTypes.kind_of}
use Rattle.mpd_profile.specs.{declared.fault.RuleFault.RuleFault, declared.feature.Feature.Feature}
use Rattle.mpd_profile.specs.declared.feature.Feature.TheVariants.{Encryption, Events, LowLatency, Remote, Essential, Unsupported}
use Rattle.mpd_profile.specs.{declared.listed.Listed.Listed, declared.listed.Listed.TheVariants.{Mpd, Period, Representation, S}}
use Rattle.mpd_profile.specs.{Elements.{Named, named_in}, Heads.value_over, Visits.{Parent, Visit}}

-- ---- elements

-- rejected in every element that is read
abbrev pub refused_elements : List (Named Feature)
refused_elements =
    (codes "ContentProtection", Encryption) ∷ (codes "EventStream", Events) ∷ (codes "InbandEventStream", Events)
    ∷ (codes "Subset", Unsupported) ∷ (codes "Preselection", Unsupported) ∷ (codes "PatchLocation", Unsupported) ∷ []

-- an EssentialProperty of the MPD or a Period
abbrev pub is_essential_in : Listed → List ℕ → Bool
is_essential_in Mpd name = bytes_eq name (codes "EssentialProperty")
is_essential_in Period name = bytes_eq name (codes "EssentialProperty")
is_essential_in other name = false

abbrev pub is_segment_element : List ℕ → Bool
is_segment_element name =
    bytes_eq name (codes "SegmentTemplate") || (bytes_eq name (codes "SegmentList") || bytes_eq name (codes "SegmentBase"))

abbrev pub names_of : List Head → List (List ℕ)
names_of heads = map (λ head. head.name) heads

-- the second of an element that a parent may have only once
abbrev pub is_second : List Head → List ℕ → Bool
is_second before name =
    (is_segment_element name && list_any (λ head. is_segment_element head.name) before)
    || ((bytes_eq name (codes "SegmentTimeline") && is_among (codes "SegmentTimeline") (names_of before))
    || (bytes_eq name (codes "Initialization") && is_among (codes "Initialization") (names_of before)))

abbrev pub feature_if : Listed → (second : Bool) → List ℕ → Option Feature
feature_if parent second name =
    if is_essential_in parent name then Some Essential else if second then Some Unsupported else named_in refused_elements name

abbrev pub element_feature : Parent → List Head → List ℕ → Option Feature
element_feature parent before name = feature_if parent.listed (is_second before name) name

-- a codec of a Representation is of another kind than its media type
abbrev pub has_foreign : Option Kind → Option (List ℕ) → Bool
has_foreign (Some kind) (Some codecs) = has_foreign_code kind codecs
has_foreign (Some kind) None = false
has_foreign None codecs = false

abbrev pub kind_named : Option (List ℕ) → Option Kind
kind_named type = option_and_then kind_of type

abbrev pub codes_feature : Option Listed → Option Parent → Head → Option Feature
codes_feature (Some Representation) (Some set) head =
    if has_foreign (kind_named (value_over (codes "mimeType") set.head head)) (value_over (codes "codecs") set.head head)
    then Some Unsupported else None
codes_feature listed parent head = None

abbrev pub parent_feature : Option Parent → List Head → List ℕ → Option Feature
parent_feature None before name = None
parent_feature (Some parent) before name = element_feature parent before name

-- ---- attributes

-- an attribute of an S that groups or splits segments (5.3.9.6)
abbrev pub s_features : Listed → List (Named Feature)
s_features S = (codes "k", LowLatency) ∷ (codes "n", Unsupported) ∷ []
s_features other = []

abbrev pub static_features : Listed → List (Named Feature)
static_features listed = (codes "xlink:href", Remote) ∷ (codes "endNumber", Unsupported) ∷ s_features listed

-- when segments are available matters only for a dynamic MPD
abbrev pub refused_attributes : (dynamic : Bool) → Listed → List (Named Feature)
refused_attributes true listed = (codes "availabilityTimeOffset", LowLatency) ∷ static_features listed
refused_attributes false listed = static_features listed

-- segments are available before they are complete (5.3.9.2)
abbrev pub is_incomplete : Attribute → Bool
is_incomplete attribute =
    bytes_eq attribute.name (codes "availabilityTimeComplete") && bytes_eq (trimmed Space attribute.value) (codes "false")

-- the usual attributes of an S (5.3.9.6)
abbrev pub is_entry_value : List ℕ → Bool
is_entry_value name = bytes_eq name (codes "t") || (bytes_eq name (codes "d") || bytes_eq name (codes "r"))

abbrev pub attribute_feature : (dynamic : Bool) → Listed → Attribute → Option Feature
attribute_feature dynamic listed attribute =
    if is_incomplete attribute then Some LowLatency else named_in (refused_attributes dynamic listed) attribute.name

-- ---- the pass

abbrev pub fault_at : Feature → Place → RuleFault
fault_at Encryption place = fault.Encryption place
fault_at Events place = fault.Events place
fault_at LowLatency place = fault.LowLatency place
fault_at Remote place = fault.Remote place
fault_at Essential place = fault.Essential place
fault_at Unsupported place = fault.Unsupported place

-- the error of a feature at a position, where there is one
abbrev pub told_at : Place → Option Feature → List RuleFault
told_at place None = []
told_at place (Some feature) = fault_at feature place ∷ []

abbrev pub attributes_told : Option Listed → (dynamic : Bool) → List Attribute → List RuleFault
attributes_told None dynamic attributes = []
attributes_told (Some listed) dynamic attributes =
    flat_map (λ attribute. told_at attribute.place (attribute_feature dynamic listed attribute)) attributes

-- the features at an element: its own, then those of its attributes
abbrev pub features_at : Visit → List RuleFault
features_at visit =
    told_at visit.head.place (parent_feature visit.parent visit.before visit.head.name)
    ++ told_at visit.head.place (codes_feature visit.listed visit.parent visit.head)
    ++ attributes_told visit.listed visit.dynamic visit.head.attributes

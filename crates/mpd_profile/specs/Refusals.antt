-- The errors in an MPD before its Periods and Representations are put together, pass by pass.
use Rattle.std.specs.Prelude.{ℕ, ◌&&◌, ◌||◌, not, Bool, true, false, List, [], ◌∷◌, ◌++◌, codes, bytes_eq, flat_map, is_none}
use Rattle.std.specs.{Prelude.{if◌then◌else◌, Option, Some, None}, List.list_any}
use Rattle.mpd_tree.specs.Trees.{Attribute, Head, Element}
use Rattle.mpd_values.specs.MediaTypes.{is_alike}
use Rattle.mpd_profile.specs.declared.fault.RuleFault.{RuleFault}
use Rattle.mpd_profile.specs.declared.fault.RuleFault.TheVariants.{Root, Namespace, Missing, Value, Memory}
use Rattle.mpd_profile.specs.{declared.value.Value.Value as Kind, declared.listed.Listed.Listed}
use Rattle.mpd_profile.specs.{declared.listed.Listed.TheVariants.{Mpd, Period, Representation, S}, declared.listed.Addressing.Addressing}
use Rattle.mpd_profile.specs.{declared.listed.Addressing.TheVariants.Segments, Elements.value_of, Values.is_value}
use Rattle.mpd_profile.specs.{Heads.{value_over, value_named}, Visits.{Parent, Visit, visits_of}, Features.features_at}

-- ---- the root (ISO/IEC 23009-1, 5.3.1.2), compared ignoring ASCII case

abbrev pub is_namespace : Option (List ℕ) → Bool
is_namespace None = false
is_namespace (Some text) = is_alike text (codes "urn:mpeg:dash:schema:mpd:2011")

unfoldable pub root_refusals : Element → List RuleFault
root_refusals root =
    (if bytes_eq root.head.name (codes "MPD") then [] else Root root.head.place ∷ [])
    ++ (if is_namespace (value_named (codes "xmlns") root.head) then [] else Namespace root.head.place ∷ [])

-- ---- features

unfoldable pub feature_refusals : Element → List RuleFault
feature_refusals root = flat_map features_at (visits_of Segments root)

-- ---- values

-- the required attributes of an element
abbrev pub required_of : Option Listed → (dynamic : Bool) → List (List ℕ)
required_of (Some Mpd) true = codes "availabilityStartTime" ∷ []
required_of (Some Period) true = codes "id" ∷ []
required_of (Some Representation) dynamic = codes "id" ∷ codes "bandwidth" ∷ []
required_of (Some S) dynamic = codes "d" ∷ []
required_of other dynamic = []

abbrev pub lacks : Head → List ℕ → Bool
lacks head name = is_none (value_named name head)

-- a Representation has no media type, not from its AdaptationSet either
abbrev pub has_no_type : Option Listed → Option Parent → Head → Bool
has_no_type (Some Representation) (Some set) head = is_none (value_over (codes "mimeType") set.head head)
has_no_type listed parent head = false

-- a Period of a dynamic MPD has the id of an earlier one
abbrev pub is_same_id : Option (List ℕ) → List ℕ → Bool
is_same_id None id = false
is_same_id (Some other) id = bytes_eq other id

-- the id of a Period
abbrev pub period_id : Head → Option (List ℕ)
period_id head = if bytes_eq head.name (codes "Period") then value_named (codes "id") head else None

abbrev pub has_id : List ℕ → Head → Bool
has_id id head = is_same_id (period_id head) id

abbrev pub is_repeated_id : Visit → Listed → Attribute → Bool
is_repeated_id visit Period attribute =
    visit.dynamic && (bytes_eq attribute.name (codes "id") && list_any (has_id attribute.value) visit.before)
is_repeated_id visit other attribute = false

abbrev pub is_other : Option Kind → List ℕ → Bool
is_other None text = false
is_other (Some value) text = not (is_value value text)

abbrev pub is_other_value : Addressing → Listed → Attribute → Bool
is_other_value addressing listed attribute = is_other (value_of addressing listed attribute.name) attribute.value

abbrev pub attribute_told : Addressing → Visit → Listed → Attribute → List RuleFault
attribute_told addressing visit listed attribute =
    if is_other_value addressing listed attribute || is_repeated_id visit listed attribute then Value attribute.place ∷ [] else []

abbrev pub attributes_told : Addressing → Visit → Option Listed → List RuleFault
attributes_told addressing visit None = []
attributes_told addressing visit (Some listed) = flat_map (attribute_told addressing visit listed) visit.head.attributes

-- what is missing at an element, then the values of its attributes
abbrev pub values_at : Addressing → Visit → List RuleFault
values_at addressing visit =
    (if list_any (lacks visit.head) (required_of visit.listed visit.dynamic) || has_no_type visit.listed visit.parent visit.head
    then Missing visit.head.place ∷ [] else [])
    ++ attributes_told addressing visit visit.listed

unfoldable pub value_refusals : Addressing → Element → List RuleFault
value_refusals addressing root = flat_map (values_at addressing) (visits_of addressing root)

-- ---- the passes in order

-- of an MPD with this addressing
unfoldable pub refusals_of : Addressing → Element → List RuleFault
refusals_of addressing root = root_refusals root ++ feature_refusals root ++ value_refusals addressing root

-- out of memory says nothing about an MPD
abbrev pub refusal : RuleFault → Option RuleFault
refusal Memory = None
refusal fault = Some fault

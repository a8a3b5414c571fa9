-- What is dropped from a presentation: what this program doesn't support, and a client may ignore (ISO/IEC 23009-1, 5.3.3
-- and 5.8.4.8 on EssentialProperty).
use Rattle.std.specs.{Prelude.{ℕ, ◌||◌, not, Bool, false, List, codes, is_none, Option, Some, None}, List.list_all}
use Rattle.mpd_values.specs.MediaTypes.{kind_of}
use Rattle.mpd_tree.specs.{Trees.{Head, Element}, Views.side_by_side}
use Rattle.mpd_profile.specs.{declared.listed.Listed.Listed, declared.listed.Listed.TheVariants.{AdaptationSet, Representation}}
use Rattle.mpd_profile.specs.Heads.{has_child, is_named, or_else, value_named}

-- a media type is present, and isn't supported
abbrev pub is_other_type : Option (List ℕ) → Bool
is_other_type None = false
is_other_type (Some text) = is_none (kind_of text)

-- the media type of an element
abbrev pub type_of : Head → Option (List ℕ)
type_of head = value_named (codes "mimeType") head

-- a Representation of an AdaptationSet with this media type is dropped: its effective media type isn't supported, or it has
-- an EssentialProperty
unfoldable pub is_representation_left_out : Option (List ℕ) → Element → Bool
is_representation_left_out type representation =
    has_child (codes "EssentialProperty") representation.children || is_other_type (or_else (type_of representation.head) type)

-- a child of an AdaptationSet isn't a Representation, or is dropped
abbrev pub is_none_kept : Option (List ℕ) → Element → Bool
is_none_kept type e = not (is_named (codes "Representation") e) || is_representation_left_out type e

-- an AdaptationSet is dropped: it has an EssentialProperty, or all its Representations are dropped
unfoldable pub is_set_left_out : Element → Bool
is_set_left_out set =
    has_child (codes "EssentialProperty") set.children || list_all (is_none_kept (type_of set.head)) (side_by_side set.children)

-- an element is dropped, by its kind and the media type of its parent
abbrev pub is_left_out_by : Option (List ℕ) → Option Listed → Element → Bool
is_left_out_by type (Some AdaptationSet) e = is_set_left_out e
is_left_out_by type (Some Representation) e = is_representation_left_out type e
is_left_out_by type other e = false

abbrev pub is_left_out : Head → Option Listed → Element → Bool
is_left_out parent listed e = is_left_out_by (type_of parent) listed e

-- What the lines of a master playlist mention.
use Rattle.std.specs.{Prelude.{ℕ, List, [], ◌∷◌, ◌++◌, Option, Some, Result}, List.flat_map, Option.option_to_list}
use Rattle.bridge_io.specs.Firsts.{first_some}
use Rattle.hls_lines.specs.Attributes.{attributes_of}
use Rattle.hls_master.specs.{declared.fault.MasterFault.MasterFault, Entries.{MasterEntry, rendition, variant, stray}, Faults.answer}
use Rattle.hls_master.specs.{Renditions.{RenditionValue, rendition_value, rendition_fault, same_name}, Variants.VariantValue}
use Rattle.hls_master.specs.Variants.{variant_with, variant_fault, attributes_or_none}

-- the renditions and the variants of a master playlist, each in the order of the lines
pub record MentionsValue : Type 0 where
  pub renditions : List RenditionValue
  pub variants : List VariantValue

abbrev pub entry_rendition : (master : List ℕ) → MasterEntry → List RenditionValue
entry_rendition master (rendition rest place) = option_to_list (rendition_value master (attributes_of rest place))
entry_rendition master (variant rest place uri uri_place) = []
entry_rendition master (stray fault) = []

abbrev pub entry_variant : (master : List ℕ) → MasterEntry → List VariantValue
entry_variant master (rendition rest place) = []
entry_variant master (variant rest place uri uri_place) = variant_with master place uri (attributes_or_none (attributes_of rest place)) ∷ []
entry_variant master (stray fault) = []

-- what lines mention, after what was mentioned before
abbrev pub mentions_behind : (master : List ℕ) → MentionsValue → List MasterEntry → MentionsValue
mentions_behind master before entries = record {
  renditions = before.renditions ++ flat_map (entry_rendition master) entries;
  variants = before.variants ++ flat_map (entry_variant master) entries;
}

-- one more rendition, and one more variant
abbrev pub with_rendition : MentionsValue → RenditionValue → MentionsValue
with_rendition before one = record before { renditions = before.renditions ++ one ∷ [] }

abbrev pub with_variant : MentionsValue → VariantValue → MentionsValue
with_variant before one = record before { variants = before.variants ++ one ∷ [] }

abbrev pub nothing : MentionsValue
nothing = record { renditions = []; variants = [] }

abbrev pub mentions_of : (master : List ℕ) → List MasterEntry → MentionsValue
mentions_of master entries = mentions_behind master nothing entries

-- the first fault of an entry after renditions
abbrev pub entry_fault : (master : List ℕ) → List RenditionValue → MasterEntry → Option MasterFault
entry_fault master before (rendition rest place) =
    first_some (rendition_fault master place (attributes_of rest place) ∷ same_name before place
    (rendition_value master (attributes_of rest place)) ∷ [])
entry_fault master before (variant rest place uri uri_place) = variant_fault master place uri uri_place (attributes_of rest place)
entry_fault master before (stray fault) = Some fault

-- the faults of entries in order, after renditions
abbrev pub entry_faults : (master : List ℕ) → List RenditionValue → List MasterEntry → List (Option MasterFault)
entry_faults master before [] = []
entry_faults master before (entry ∷ entries) = entry_fault master before entry ∷ entry_faults master
    (before ++ entry_rendition master entry) entries

-- what lines mention after what was mentioned before, or their first fault
unfoldable pub reading : (master : List ℕ) → MentionsValue → List MasterEntry → Result MentionsValue MasterFault
reading master before entries = answer (first_some (entry_faults master before.renditions entries)) (mentions_behind master before entries)

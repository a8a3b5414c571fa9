-- Elements whose attributes are the usual ones of an S, with numbers of few digits.
use Rattle.std.specs.{Prelude.{◌&&◌, ◌++◌, Bool, List, codes, is_some}, List.list_all}
use Rattle.mpd_tree.specs.Trees.{Attribute, Head}
use Rattle.mpd_profile.specs.{declared.fault.RuleFault.RuleFault, Features.{codes_feature, is_entry_value, parent_feature, told_at}}
use Rattle.mpd_profile.specs.{Heads.value_named, Values.are_few_digits, Visits.Visit}

-- one of the usual attributes, with such a number
unfoldable pub is_plain_value : Attribute → Bool
is_plain_value attribute = is_entry_value attribute.name && are_few_digits attribute.value

-- all are such, a duration among them
abbrev pub has_plain_values : Head → Bool
has_plain_values head = list_all is_plain_value head.attributes && is_some (value_named (codes "d") head)

-- the feature that an element itself is
abbrev pub feature_told : Visit → List RuleFault
feature_told visit =
    told_at visit.head.place (parent_feature visit.parent visit.before visit.head.name)
    ++ told_at visit.head.place (codes_feature visit.listed visit.parent visit.head)

-- What matters of the earlier siblings of an element.
use Rattle.std.specs.{Prelude.{◌≡◌, ℕ, ◌&&◌, Bool, List, codes, map}, List.list_any}
use Rattle.bridge_io.specs.Texts.{is_among}
use Rattle.mpd_tree.specs.Trees.{Head}
use Rattle.mpd_profile.specs.{declared.siblings.Siblings.Siblings, Features.{is_segment_element, names_of}, Refusals.has_id}

abbrev pub holds_id : Siblings → List ℕ → Bool
holds_id siblings id = is_among id (map (λ key. key.now) siblings.ids.keys)

-- what is stored of the earlier siblings
pub record IsBehind (siblings : Siblings) (dynamic : Bool) (before : List Head) : Type 0 where
  pub segments : siblings.segments ≡ list_any (λ head. is_segment_element head.name) before
  pub timeline : siblings.timeline ≡ is_among (codes "SegmentTimeline") (names_of before)
  pub initialization : siblings.initialization ≡ is_among (codes "Initialization") (names_of before)
  pub ids : (id : List ℕ) → holds_id siblings id ≡ (dynamic && list_any (has_id id) before)

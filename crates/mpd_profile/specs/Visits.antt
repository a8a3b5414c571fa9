-- An MPD's elements in document order, as far as they are checked: the elements that are read, and their children. What is
-- dropped is skipped, with its content.
use Rattle.std.specs.Prelude.{Bool, List, [], ◌∷◌, ◌++◌, if◌then◌else◌, Option, Some, None}
use Rattle.mpd_tree.specs.Trees.{Head, Forest, nothing, element, Element}
use Rattle.mpd_profile.specs.{declared.listed.Listed.Listed, declared.listed.Listed.TheVariants.Mpd, declared.listed.Addressing.Addressing}
use Rattle.mpd_profile.specs.{Elements.child_of, Heads.is_dynamic, LeftOut.is_left_out}

-- the parent of an element, with its kind, and whether the MPD is dynamic
pub record Parent : Type 0 where
  pub listed : Listed
  pub head : Head
  pub dynamic : Bool

-- an element with its context: its parent and its earlier siblings; the root has no parent
pub record Visit : Type 0 where
  pub parent : Option Parent
  pub before : List Head
  pub listed : Option Listed
  pub head : Head
  pub dynamic : Bool

abbrev pub visit_in : Addressing → Parent → List Head → Head → Visit
visit_in addressing parent before head = record {
  parent = Some parent;
  before = before;
  listed = child_of addressing parent.listed head.name;
  head = head;
  dynamic = parent.dynamic;
}

abbrev pub parent_in : Parent → Listed → Head → Parent
parent_in parent listed head = record { listed = listed; head = head; dynamic = parent.dynamic }

-- what is in an element, where that is read
abbrev pub inside : {X : Type 0} → Option Listed → (Listed → List X) → List X
inside None visits = []
inside (Some listed) visits = visits listed

-- the kind of an element, where it has children
abbrev pub unless_empty : Forest → Option Listed → Option Listed
unless_empty nothing listed = None
unless_empty (element head children others) listed = listed

-- the elements of a parent, after others
unfoldable pub visits_in : Addressing → Parent → List Head → Forest → List Visit
visits_in addressing parent before nothing = []
visits_in addressing parent before (element head children others) =
    (if is_left_out parent.head (child_of addressing parent.listed head.name) (record { head = head; children = children }) then []
    else visit_in addressing parent before head
    ∷ inside (child_of addressing parent.listed head.name) (λ listed. visits_in addressing (parent_in parent listed head) [] children))
    ++ visits_in addressing parent (before ++ head ∷ []) others

abbrev pub root_parent : Head → Parent
root_parent root = record { listed = Mpd; head = root; dynamic = is_dynamic root }

abbrev pub root_visit : Head → Visit
root_visit root = record { parent = None; before = []; listed = Some Mpd; head = root; dynamic = is_dynamic root }

-- all of an MPD
abbrev pub visits_of : Addressing → Element → List Visit
visits_of addressing root = root_visit root.head ∷ visits_in addressing (root_parent root.head) [] root.children

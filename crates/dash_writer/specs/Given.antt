-- The outline that the code is given.
use Rattle.std.specs.Prelude.{ℕ, ◌<◌, List, length}
use Rattle.presentation.specs.declared.track.Track.{Track}
use Rattle.dash_writer.specs.{declared.outline.Outline.Outline as Given, Elements.{Attribute, Element}, Outline.{AreListed, Outline}}
use Rattle.dash_writer.specs.{Outline.{heads_from, outline_text}, Written.all_told}

-- by the attributes of a Period at an index, and by the content of a track in a Period
abbrev pub outline_of : {P T : Type 0} → (head : ℕ → P → List Attribute) → (lists : T → (section track : ℕ) → List Element) → Given P T
    → Outline
outline_of head lists o = record {
  root = all_told o.root.now;
  periods = heads_from head 0 o.periods.now;
  tracks = o.tracks.now;
  lists = lists o.lists.now;
}

-- the text of an outline
unfoldable pub text_with : {P T : Type 0} → (head : ℕ → P → List Attribute) → (lists : T → (section track : ℕ) → List Element)
    → (root : List Attribute) → List P → List Track → T → List ℕ
text_with head lists root periods tracks given =
    outline_text (record { root = root; periods = heads_from head 0 periods; tracks = tracks; lists = lists given })

abbrev pub given_text : {P T : Type 0} → (head : ℕ → P → List Attribute) → (lists : T → (section track : ℕ) → List Element) → Given P T
    → List ℕ
given_text head lists o = text_with head lists (all_told o.root.now) o.periods.now o.tracks.now o.lists.now

-- each track can be listed in each Period, and has content there
abbrev pub CanBeListed : {P T : Type 0} → (can_list : T → (section track : ℕ) → Type 0) → (lists : T → (section track : ℕ) → List Element)
    → Given P T → Type 0
CanBeListed can_list lists o =
    (section : ℕ) → section < length o.periods.now → AreListed (can_list o.lists.now section) (lists o.lists.now section) 0
    (length o.tracks.now)

-- Sets of names.
use Rattle.std.specs.Prelude.{◌≡◌, ◌<◌, ◌≤◌, ℕ, Bool, List, [], length, map}
use Rattle.bridge_io.specs.Texts.{is_among}
use Rattle.mpd_text.specs.declared.many_names.ManyNames.{ManyNames}

-- a name is in the set
abbrev pub has_name : ManyNames → List ℕ → Bool
has_name many name = is_among name (map (λ key. key.now) many.names.keys)

-- the set has these names
abbrev pub HasNames : ManyNames → List (List ℕ) → Type 0
HasNames many names = (name : List ℕ) → has_name many name ≡ is_among name names

-- the set has the names where there are many, and otherwise none
abbrev pub IsPrepared : ManyNames → List (List ℕ) → Type 0
IsPrepared many names = (length names ≤ 16 → HasNames many []) × (16 < length names → HasNames many names)

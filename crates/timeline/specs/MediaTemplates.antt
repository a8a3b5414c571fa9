-- Templates of segment names that give the same URLs.
use Rattle.std.specs.Prelude.{◌≡◌, ℕ, ◌<◌, ◌^◌, List}
use Rattle.template_ids.specs.{Filled.ids_with, Templates.named}
use Rattle.url_parts.specs.{Addresses.{resolve, IsBase}, Paths.IsPath}

-- with this id both give the same URLs
abbrev pub GivesSame : (media id short : List ℕ) → Type 0
GivesSame media id short = (base : List ℕ) (bandwidth number time : ℕ) → IsBase base → bandwidth < 2 ^ 64 → number < 2 ^ 64 → time < 2 ^ 64
    → resolve base (named short (ids_with id bandwidth number time)) ≡ resolve base (named media (ids_with id bandwidth number time))

-- with each id
abbrev pub IsLineOf : (media line : List ℕ) → Type 0
IsLineOf media line = (id : List ℕ) → GivesSame media id line

-- with each id that is a path
abbrev pub IsShortFor : (media short : List ℕ) → Type 0
IsShortFor media short = (id : List ℕ) → IsPath id → GivesSame media id short

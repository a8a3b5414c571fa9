-- Texts that stand for each other in references.
use Rattle.std.specs.Prelude.{◌≡◌, ◌⊎◌, ℕ, ◌+◌, not, Bool, true, List, [], ◌∷◌, ◌++◌, length}
use Rattle.std.specs.List.{list_all}
use Rattle.url.specs.{declared.scheme.SchemeType.TheVariants.SpecialNotFile, Input.strip_tabs_and_new_lines}
use Rattle.url.specs.{Path.{dot_count, parse_segments}}
use Rattle.url.specs.Scheme.{is_slash}
use Rattle.url_parts.specs.Addresses.{resolve, IsBase}

-- the same text, once tabs and line ends are removed
abbrev pub IsInLineAs : List ℕ → List ℕ → Type 0
IsInLineAs text other = strip_tabs_and_new_lines text ≡ strip_tabs_and_new_lines other

-- the one text in the path of an http or https URL is read as the other one, whatever is before it and after it
abbrev pub IsReadAs : List ℕ → List ℕ → Type 0
IsReadAs text other = (path segment rest : List ℕ)
    → parse_segments SpecialNotFile path segment (text ++ rest) ≡ parse_segments SpecialNotFile path segment (other ++ rest)

-- against each base the one reference gives the same as the other one
abbrev pub IsGivenAlike : List ℕ → List ℕ → Type 0
IsGivenAlike reference other = (base : List ℕ) → IsBase base → resolve base other ≡ resolve base reference

-- a byte that separates no segments
abbrev pub is_inside : ℕ → Bool
is_inside b = not (is_slash SpecialNotFile b)

-- a text that a segment can follow
abbrev pub IsOpen : List ℕ → Type 0
IsOpen text = (text ≡ []) ⊎ ((front : List ℕ) × (text ≡ front ++ 47 ∷ []))

-- the length of a text without its last segment, where that is one that `..` takes back
pub record IsTakenBack (text : List ℕ) (kept : ℕ) : Type 0 where
  pub front : List ℕ
  pub segment : List ℕ
  pub whole : text ≡ front ++ 47 ∷ (segment ++ 47 ∷ [])
  pub kept_is : kept ≡ length front + 1
  pub inside : list_all is_inside segment ≡ true
  pub named : dot_count segment ≡ 0

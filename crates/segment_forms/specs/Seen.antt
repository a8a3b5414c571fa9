-- What a finder knows of the addresses that it was given.
use Rattle.std.specs.Prelude.{◌≡◌, ℕ, ◌+◌, ◌-◌, ◌^◌, ◌&&◌, nat_le, List, [], ◌∷◌, length, bytes_eq, if◌then◌else◌, Some, None}
use Rattle.segment_forms.specs.{declared.pattern.Pattern.Pattern, declared.progress.Progress.Progress}
use Rattle.segment_forms.specs.Patterns.{IsPlaced, address_with, pattern_of}
use Rattle.segment_forms.specs.{declared.progress.Progress.TheVariants.{Empty, One, Followed, Lost}}

-- two addresses or more, of which this is the first
pub record HasTwo (first : List ℕ) (xs : List (List ℕ)) : Type 0 where
  pub second : List ℕ
  pub rest : List (List ℕ)
  pub whole : xs ≡ first ∷ (second ∷ rest)

-- the first address, and how far the addresses follow a pattern
abbrev pub IsProgress : List ℕ → Progress → List (List ℕ) → Type 0
IsProgress first Empty xs = (first ≡ []) × (xs ≡ [])
IsProgress first One xs = xs ≡ first ∷ []
IsProgress first (Followed p next) xs = HasTwo first xs × (pattern_of xs ≡ Some p) × (next ≡ p.first_number + length xs)
IsProgress first Lost xs = HasTwo first xs × (pattern_of xs ≡ None)

-- how far addresses follow a pattern with one more, given the number that it should have
abbrev pub followed_by : List ℕ → Pattern → ℕ → List ℕ → Progress
followed_by first p next address =
    if nat_le next (2 ^ 32 - 1) && bytes_eq address (address_with first p next) then Followed p (next + 1) else Lost

-- the parts of the pattern that addresses follow can be cut out of the first one
abbrev pub PlacedIn : List ℕ → Progress → Type 0
PlacedIn first progress = (p : Pattern) (next : ℕ) → progress ≡ Followed p next → IsPlaced first p

-- what a finder keeps: its first address and its progress are those of the addresses that it was given
pub record IsKept (first : List ℕ) (progress : Progress) (xs : List (List ℕ)) : Type 0 where
  pub seen : IsProgress first progress xs
  pub placed : PlacedIn first progress

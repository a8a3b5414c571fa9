-- Shorter references in place of those of SegmentURLs.
use Rattle.std.specs.Prelude.{ℕ, List, [], ◌∷◌, MatchOption, IfSome, Option, Some, None}
use Rattle.url_parts.specs.Alike.{IsGivenAlike}
use Rattle.mpd_entries.specs.declared.ref_part.RefPart.{RefPart}

-- a text that gives the same URL as the part's reference, against each base
abbrev pub IsShortOf : RefPart → List ℕ → Type 0
IsShortOf part short = MatchOption part.reference ⊥ (λ reference. IsGivenAlike reference short)

-- the same for the part at an index
abbrev pub IsShortAt : Option RefPart → List ℕ → Type 0
IsShortAt None short = ⊥
IsShortAt (Some part) short = IsShortOf part short

-- such a text for each part, or none
abbrev pub AreShort : List RefPart → List (Option (List ℕ)) → Type 0
AreShort [] [] = Unit {0}
AreShort (part ∷ parts) (short ∷ shorts) = IfSome short (IsShortOf part) × AreShort parts shorts
AreShort [] (short ∷ shorts) = ⊥
AreShort (part ∷ parts) [] = ⊥

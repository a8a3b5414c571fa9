-- What is read of a source that models its bytes.
use Rattle.std.specs.{Prelude.{◌≡◌, ℕ, List, [], ◌∷◌, ◌++◌, Option, Some, None}, Io.KnownBytes.{prepend_known, IsAtEnd}}

-- A prefix of the unread bytes is read, and the rest stays unread.
abbrev pub TakesFront : (List ℕ → List ℕ) → List ℕ → Option (List ℕ) → Option (List ℕ) → Type 0
TakesFront front piece before after =
    (bytes : List ℕ) → before ≡ Some bytes → (piece ≡ front bytes) × (rest : List ℕ) × (after ≡ Some rest) × (bytes ≡ piece ++ rest)

-- the first unread byte is read; `None` where there is none
abbrev pub TakesByte : Option ℕ → Option (List ℕ) → Option (List ℕ) → Type 0
TakesByte None before after = IsAtEnd before × (after ≡ before)
TakesByte (Some byte) before after = before ≡ prepend_known (byte ∷ []) after

-- Laws of URLs.
use Rattle.std.specs.Prelude.{◌≡◌, ℕ, true, List, [], ◌∷◌, ◌++◌, Some, None, Ok}
use Rattle.url.specs.{Parser.parse_url, Parts.Parts}
use Rattle.url_parts.specs.Addresses.{is_absolute, resolve, resolve_more, chain, unless_long, folder_of, is_name_in}

-- a reference that begins with `http://` or `https://` is read alike with any base and without one
abbrev pub NeedsNoBase : List ℕ → Type 0
NeedsNoBase reference = is_absolute reference ≡ true → (base : Parts) → parse_url (Some base) reference ≡ parse_url None reference

-- a URL that resolves to itself against each base
abbrev pub IsGivenAgain : List ℕ → Type 0
IsGivenAgain address = (base : List ℕ) → resolve base address ≡ Ok address

-- a text that is the folder of a URL followed by a name resolves to itself against each base, unless it is too long
abbrev pub IsGivenInFolder : List ℕ → List ℕ → Type 0
IsGivenInFolder address text = is_name_in (folder_of address) text ≡ true → (base : List ℕ) → resolve base text ≡ unless_long text

-- one more reference is resolved against what those before it gave
abbrev pub GoesOn : List ℕ → Type 0
GoesOn reference = (base : List ℕ) (references : List (List ℕ)) → chain base (references ++ reference ∷ [])
    ≡ resolve_more (λ next. resolve next reference) (chain base references)

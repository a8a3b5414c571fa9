-- References that are resolved one after another.
use Rattle.std.proofs.Common.{◌≡◌, ℕ, List, [], ◌∷◌, ◌++◌, Result, Ok, Err, refl}
use Rattle.url_parts.specs.{declared.fault.UrlFault.UrlFault, Addresses.{resolve, resolve_more, chain}, Laws.GoesOn}

stays : (result : Result (List ℕ) UrlFault) → resolve_more (λ next. Ok next) result ≡ result
stays (Ok base) = refl
stays (Err fault) = refl

goes_on_from : (reference : List ℕ) (references : List (List ℕ))
    → ((base : List ℕ) → chain base (references ++ reference ∷ []) ≡ resolve_more (λ next. resolve next reference) (chain base references))
    → (first : Result (List ℕ) UrlFault) → resolve_more (λ next. chain next (references ++ reference ∷ [])) first
    ≡ resolve_more (λ next. resolve next reference) (resolve_more (λ next. chain next references) first)
goes_on_from reference references later (Ok base) = later base
goes_on_from reference references later (Err fault) = refl

pub goes_on : (reference : List ℕ) → GoesOn reference
goes_on reference base [] = stays (resolve base reference)
goes_on reference base (first ∷ references) = goes_on_from reference references (λ next. goes_on reference next references)
    (resolve base first)

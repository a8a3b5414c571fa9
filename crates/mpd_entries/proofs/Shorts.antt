-- Shorter references, one after another.
use Rattle.std.proofs.Common.{◌≡◌, ℕ, zero, suc, ◌+◌, ◌<◌, List, [], ◌∷◌, ◌++◌, length, take, get_or, Option, Some, None, sym, subst}
use Rattle.std.proofs.lemmas.List.{take_more}
use Rattle.std.specs.Prelude.{IfSome, slice_get}
use Rattle.mpd_entries.specs.{declared.ref_part.RefPart.RefPart, Short.{AreShort, IsShortAt, IsShortOf}}

push_short : (parts : List RefPart) (shorts : List (Option (List ℕ))) (part : RefPart) (short : Option (List ℕ)) → AreShort parts shorts
    → IfSome short (IsShortOf part) → AreShort (parts ++ part ∷ []) (shorts ++ short ∷ [])
push_short [] [] part short are is = (is, tt)
push_short (p ∷ parts) (s ∷ shorts) part short are is = (are.0, push_short parts shorts part short are.1 is)
push_short [] (s ∷ shorts) part short are is = absurd are
push_short (p ∷ parts) [] part short are is = absurd are

pub short_next : (parts : List RefPart) (i : ℕ) (d : RefPart) (shorts : List (Option (List ℕ))) (short : Option (List ℕ)) → i < length parts
    → AreShort (take i parts) shorts → IfSome short (IsShortOf (get_or parts i d)) → AreShort (take (i + 1) parts) (shorts ++ short ∷ [])
short_next parts i d shorts short inside are is =
    subst (λ ps. AreShort ps (shorts ++ short ∷ [])) (sym (take_more parts i d inside))
    (push_short (take i parts) shorts (get_or parts i d) short are is)

-- the text at an index
pub short_at : (parts : List RefPart) (shorts : List (Option (List ℕ))) (place : ℕ) → AreShort parts shorts
    → IfSome (slice_get shorts place) (λ short. IfSome short (IsShortAt (slice_get parts place)))
short_at [] [] place are = tt
short_at (p ∷ parts) (None ∷ shorts) zero are = tt
short_at (p ∷ parts) (Some s ∷ shorts) zero are = are.0
short_at (p ∷ parts) (s ∷ shorts) (suc place) are = short_at parts shorts place are.1
short_at [] (s ∷ shorts) place are = absurd are
short_at (p ∷ parts) [] place are = absurd are

pub short_found : (parts : List RefPart) (shorts : List (Option (List ℕ))) (place : ℕ) (short : List ℕ) → AreShort parts shorts
    → slice_get shorts place ≡ Some (Some short) → IsShortAt (slice_get parts place) short
short_found parts shorts place short are found =
    subst (λ o. IfSome o (λ s. IfSome s (IsShortAt (slice_get parts place)))) found (short_at parts shorts place are)

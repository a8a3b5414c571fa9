-- A shorter reference gives what the listed one gives.
use Rattle.std.proofs.Common.{◌≡◌, ℕ, List, Option, Some, None, ap}
use Rattle.std.specs.Option.{option_and_then}
use Rattle.mpd_entries.specs.{declared.ref_part.RefPart.RefPart, Short.{IsShortAt, IsShortOf}}
use Rattle.url_parts.specs.{Addresses.{resolve, IsBase}, declared.range.Range.Range}
use Rattle.timeline.specs.Names.{listed_part, part_at, referred}

reference_gives : (base : List ℕ) (reference : Option (List ℕ)) (range : Option Range) (short : List ℕ) → IsBase base
    → IsShortOf (record { reference = reference; range = range }) short → part_at range (resolve base short)
    ≡ part_at range (referred base reference)
reference_gives base None range short is shorter = absurd shorter
reference_gives base (Some reference) range short is shorter = ap (part_at range) (shorter base is)

pub short_gives : (base : List ℕ) (part : Option RefPart) (short : List ℕ) → IsBase base → IsShortAt part short
    → part_at (option_and_then (λ (p : RefPart). p.range) part) (resolve base short) ≡ listed_part base part
short_gives base None short is shorter = absurd shorter
short_gives base (Some part) short is shorter = reference_gives base part.reference part.range short is shorter

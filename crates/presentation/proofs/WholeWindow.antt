-- A window without bounds lists every segment, and parts that are told one by one are what they mean.
use Rattle.std.proofs.Common.{◌≡◌, ℕ, zero, suc, ◌-◌, ◌<◌, pos, ◌*ℤ◌, false, true, List, [], ◌∷◌, map, slice_get, Some, refl, ◌∙◌, ap}
use Rattle.std.proofs.{Common.arith, lemmas.Bool.Decides.nat_tests, lemmas.Int.ints}
use Rattle.std.specs.Prelude.{int_le, int_lt}
use Rattle.exact_time.specs.Time.{in_units}
use Rattle.timeline.specs.{declared.names.Names.TheVariants.Addresses, Expansions.{Closed, Extent, SegmentTimeline, Timing, extents}}
use Rattle.timeline.specs.Listed.{instant_of, listed, media_time}
use Rattle.timeline.proofs.Ratios.{int_le-false}
use Rattle.url_parts.specs.declared.address.Part.{Part}
use Rattle.presentation.specs.{Meanings.{own_part, part_by, part_meant}, Presented.whole_window}

ends_later : (t start end : ℕ) → int_le (pos end *ℤ pos t) (pos start *ℤ pos t) ≡ false → 0 < end
ends_later t start zero is = (let less = int_le-false (pos 0 *ℤ pos t) (pos start *ℤ pos t) is in omega (arith, ints, less))
ends_later t start (suc end) is = omega arith

after_start : (t end : ℕ) → 0 < end → int_lt (pos 0 *ℤ pos t) (pos end *ℤ pos 1) ≡ true
after_start t end some = grind (arith, ints, nat_tests)

abbrev timed : (t start end number : ℕ) → Timing
timed t start end number = record { start = in_units t start; end = in_units t end; number = number }

-- a segment that lasts some time is listed before the others
pub one_listed : (t start end number : ℕ) (rest : List Timing) → int_le (pos end *ℤ pos t) (pos start *ℤ pos t) ≡ false
    → listed whole_window rest ≡ rest
    → listed whole_window (timed t start end number ∷ rest) ≡ timed t start end number ∷ rest
one_listed t start end number rest lasts all =
    rw (after_start t end (ends_later t start end lasts)) (ap (λ later. timed t start end number ∷ later) all)

pub expanded : (xs : List Extent) → extents (instant_of whole_window) (map Closed xs) ≡ xs
expanded [] = refl
expanded (x ∷ xs) = ap (λ later. x ∷ later) (expanded xs)

pub part_at_place : (runs : SegmentTimeline) (parts : List Part) (x : Timing) (part : Part) → runs.names ≡ Addresses parts
    → slice_get parts (x.number - runs.first_number) ≡ Some part → part_meant runs x ≡ part
unfolding part_meant
part_at_place runs parts x part named at =
    ap (λ names. part_by names (x.number - runs.first_number) x.number (media_time runs x)) named ∙ ap own_part at

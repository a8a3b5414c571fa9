-- The pattern of the addresses of a list of segments: a prefix, a number that counts up by one, and a suffix.
use Rattle.std.specs.Prelude.{◌≡◌, ℕ, ◌+◌, ◌-◌, ◌^◌, ◌<◌, ◌≤◌, ◌&&◌, nat_le, Bool, true, List, [], ◌∷◌, ◌++◌, length, take, drop}
use Rattle.std.specs.Prelude.{slice_index_or, slice_range, bytes_eq, decimal, IsCharBoundary, if◌then◌else◌, Option, Some, None}
use Rattle.std.specs.{Bool.then_some, Char.is_ascii_digit, List.{prefix_len, suffix_len}, Option.option_and_then, Str.Parse.digits_value}
use Rattle.template_ids.specs.Templates.{padded}
use Rattle.segment_forms.specs.{declared.pattern.Pattern.Pattern, Numbers.has_spare_zero, Places.place_of}

-- the run of digits that holds a place: where it begins, and where it ends
abbrev pub run_start : List ℕ → ℕ → ℕ
run_start text place = place - suffix_len is_ascii_digit (take place text)

abbrev pub run_end : List ℕ → ℕ → ℕ
run_end text place = place + prefix_len is_ascii_digit (drop place text)

-- the number of digits of a run that begins with a spare zero; 0 of any other
abbrev pub width_of : List ℕ → ℕ
width_of run = if has_spare_zero run then length run else 0

-- the pattern whose number is the run from `start` to `end` of the first address, where it has no more than 20 digits
abbrev pub pattern_between : List ℕ → ℕ → ℕ → Option Pattern
pattern_between first start end = let run = slice_range first start end in
    then_some (nat_le (length run) 20)
    (record { prefix_len = start; suffix_start = end; first_number = digits_value 10 run; width = width_of run })

-- the pattern whose number holds a place of the first address
abbrev pub pattern_at : List ℕ → ℕ → Option Pattern
pattern_at first place = pattern_between first (run_start first place) (run_end first place)

-- the address with a number
abbrev pub address_with : List ℕ → Pattern → ℕ → List ℕ
address_with first p number = take p.prefix_len first ++ (padded p.width (decimal number) ++ drop p.suffix_start first)

-- the k-th address, counted from 0
abbrev pub address_at : List ℕ → Pattern → ℕ → List ℕ
address_at first p k = address_with first p (p.first_number + k)

-- the number of the last of that many segments is below 2^32
abbrev pub counts_within : Pattern → ℕ → Bool
counts_within p segments = nat_le (p.first_number + (segments - 1)) (2 ^ 32 - 1)

-- each address is as the pattern says, the first of them the k-th
abbrev pub follow : List ℕ → Pattern → ℕ → List (List ℕ) → Bool
follow first p k [] = true
follow first p k (x ∷ xs) = bytes_eq x (address_at first p k) && follow first p (k + 1) xs

-- a pattern that passes a test
abbrev pub kept : (Pattern → Bool) → Option Pattern → Option Pattern
kept test None = None
kept test (Some p) = then_some (test p) p

-- the pattern that the first addresses suggest
abbrev pub suggested : List ℕ → List (List ℕ) → Option Pattern
suggested first rest = option_and_then (pattern_at first) (place_of first rest)

-- all numbers are below 2^32, and all addresses are as the pattern says
abbrev pub is_pattern_of : List ℕ → List (List ℕ) → Pattern → Bool
is_pattern_of first rest p = counts_within p (length (first ∷ rest)) && follow first p 0 (first ∷ rest)

-- the pattern of a list of addresses
abbrev pub pattern_of : List (List ℕ) → Option Pattern
pattern_of [] = None
pattern_of (first ∷ rest) = kept (is_pattern_of first rest) (suggested first rest)

-- the parts of the first address can be cut out of it, and the width is one of a template
pub record IsPlaced (text : List ℕ) (p : Pattern) : Type 0 where
  pub ordered : p.prefix_len ≤ p.suffix_start
  pub front : IsCharBoundary text p.prefix_len
  pub back : IsCharBoundary text p.suffix_start
  pub narrow : p.width ≤ 20

-- where a list has a pattern, it gives each address
abbrev pub AddressesAreGiven : Type 0
AddressesAreGiven = (first : List ℕ) (rest : List (List ℕ)) (p : Pattern) → pattern_of (first ∷ rest) ≡ Some p
    → (k : ℕ) → k < length (first ∷ rest) → address_at first p k ≡ slice_index_or (first ∷ rest) k []

-- Laws of sections.
use Rattle.std.specs.{Prelude.{◌≡◌, ℕ, ◌<◌, ◌==◌, true, List, [], filter}, List.{list_any, range_with_len}}
use Rattle.std.specs.List.Sorted.{IsStrictlyIncreasing}
use Rattle.hls_meaning.specs.Meanings.{Source, is_told, numbers_among}

-- each number is above the one before it
abbrev pub NumbersRise : Type 0
NumbersRise = (sources : List Source) → IsStrictlyIncreasing (numbers_among [] sources)

-- they are the numbers that some segment of some track has
abbrev pub NumbersAreTold : Type 0
NumbersAreTold = (sources : List Source) (number : ℕ) → list_any (λ n. n == number) (numbers_among [] sources) ≡ is_told sources number

-- so, where all are below a bound, they are those below it that some segment has
abbrev pub NumbersAreThoseTold : Type 0
NumbersAreThoseTold = (sources : List Source) (bound : ℕ) → ((number : ℕ) → is_told sources number ≡ true → number < bound)
    → numbers_among [] sources ≡ filter (is_told sources) (range_with_len 0 bound)

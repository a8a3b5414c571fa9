-- Positions of the bytes of a file.
use Rattle.std.specs.Prelude.{ℕ, ◌+◌, ◌==◌, List, take, count_by}
use Rattle.bridge_io.specs.declared.place.Place.{Place}

-- a byte's line number: one more than the LF bytes before it
abbrev pub line_of : List ℕ → ℕ → ℕ
line_of bytes at = count_by (λ b. b == 10) (take at bytes) + 1

-- a byte's position
abbrev pub place_of : List ℕ → ℕ → Place
place_of bytes at = record { at = at; line = line_of bytes at }

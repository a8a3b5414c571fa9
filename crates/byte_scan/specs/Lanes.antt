-- Vectors of bytes whose lanes hold the results of a test.
use Rattle.std.specs.Prelude.{ℕ, Bool, if◌then◌else◌, List, map}

-- all ones for yes, and 0 for no
abbrev pub flag : Bool → ℕ
flag answer = if answer then 255 else 0

-- the result of each lane
abbrev pub flags : (ℕ → Bool) → List ℕ → List ℕ
flags passes lanes = map (λ lane. flag (passes lane)) lanes

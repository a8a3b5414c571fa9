-- Rows of the code's tables.
use Rattle.std.specs.{Prelude.{ℕ, List}, Borrow.Bor}
use Rattle.mpd_profile.specs.Elements.{Named}

-- a row by its values
abbrev pub shown : {X : Type 0} → Bor (List ℕ) × X → Named X
shown row = (row.0.now, row.1)

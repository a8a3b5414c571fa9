-- Line ends.
use Rattle.std.specs.Prelude.{ℕ, Bool, ◌==◌}

-- a line feed
abbrev pub is_line_feed : ℕ → Bool
is_line_feed byte = byte == 10

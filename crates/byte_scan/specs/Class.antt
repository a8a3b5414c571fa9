-- Which bytes a class of text excludes.
use Rattle.std.specs.Prelude.{ℕ, Bool, not, ◌==◌, ◌||◌, ◌&&◌, nat_lt}
use Rattle.byte_scan.specs.{declared.class.Class.Class, declared.class.Class.TheVariants.{Xml, Playlist}}

-- tab, line feed or carriage return
abbrev pub is_blank_control : ℕ → Bool
is_blank_control byte = byte == 9 || byte == 10 || byte == 13

-- below the space, and none of those three
abbrev pub is_low_control : ℕ → Bool
is_low_control byte = nat_lt byte 32 && not (is_blank_control byte)

-- a byte that a text of the class may not contain
abbrev pub is_outside : Class → ℕ → Bool
is_outside Xml byte = is_low_control byte
is_outside Playlist byte = is_low_control byte || byte == 127

-- Runs of leading bytes, and what follows them.
use Rattle.std.specs.Prelude.{ℕ, List, [], ◌∷◌, Bool, false, not, ◌==◌, suc, length, take, drop, position, unwrap_or, if◌then◌else◌}
use Rattle.std.specs.{Prelude.nat_eq, List.starts_with}
use Rattle.byte_scan.specs.ByteSet.{is_member}
use Rattle.mpd_tree.specs.Characters.{is_white, goes_on_name}

-- how many bytes are before the first one that ends a run
abbrev pub up_to : (ℕ → Bool) → List ℕ → ℕ
up_to ends bytes = unwrap_or (position ends bytes) (length bytes)

abbrev pub is_black : ℕ → Bool
is_black b = not (is_white b)

abbrev pub ends_name : ℕ → Bool
ends_name b = not (goes_on_name b)

abbrev pub after_white : List ℕ → List ℕ
after_white bytes = drop (up_to is_black bytes) bytes

abbrev pub name_at : List ℕ → List ℕ × List ℕ
name_at bytes = let n = up_to ends_name bytes in (take n bytes, drop n bytes)

-- up to the first byte of a set
abbrev pub plain_at : List ℕ → List ℕ → List ℕ × List ℕ
plain_at marks bytes = let n = up_to (is_member marks) bytes in (take n bytes, drop n bytes)

abbrev pub after_line_feed : List ℕ → List ℕ
after_line_feed [] = []
after_line_feed (b ∷ bs) = if b == 10 then bs else b ∷ bs

abbrev pub mark : List ℕ
mark = 239 ∷ 187 ∷ 191 ∷ []

-- after the byte order mark, if there is one
abbrev pub after_mark : List ℕ → List ℕ
after_mark bytes = if starts_with nat_eq bytes mark then drop 3 bytes else bytes

-- the length of the common prefix
abbrev pub common : List ℕ → List ℕ → ℕ
common [] bytes = 0
common (a ∷ more) [] = 0
common (a ∷ more) (b ∷ bs) = if a == b then suc (common more bs) else 0

-- whether the first byte is this one
abbrev pub begins : ℕ → List ℕ → Bool
begins byte [] = false
begins byte (b ∷ bs) = b == byte

-- What is dropped around a value.
use Rattle.std.specs.{Prelude.{ℕ, ◌-◌, ◌==◌, ◌||◌, Bool, List, length, take, drop}, List.{prefix_len, suffix_len}}
use Rattle.mpd_values.specs.{declared.blank.Blank.Blank, declared.blank.Blank.TheVariants.{Space, SpaceOrLineEnd}}

abbrev pub is_blank : Blank → ℕ → Bool
is_blank Space b = b == 32
is_blank SpaceOrLineEnd b = b == 32 || (b == 10 || b == 13)

-- a text without its leading blanks
abbrev pub without_front : (ℕ → Bool) → List ℕ → List ℕ
without_front blank text = drop (prefix_len blank text) text

-- and without its trailing ones
abbrev pub without_end : (ℕ → Bool) → List ℕ → List ℕ
without_end blank text = take (length text - suffix_len blank text) text

-- a text without the blanks around it
unfoldable pub trimmed : Blank → List ℕ → List ℕ
trimmed blank text = without_front (is_blank blank) (without_end (is_blank blank) text)

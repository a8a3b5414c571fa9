-- The bytes that are written as references (XML 1.0, 2.4 and 4.6).
use Rattle.std.specs.Prelude.{ℕ, List, codes}

-- each of the four twice, as a set of eight
abbrev pub four : List ℕ
four = codes "&<>\"&<>\""

-- Laws of written texts.
use Rattle.std.specs.{Prelude.{◌≡◌, ◌==◌, false, List, [], ◌∷◌, ◌++◌, map, All}, List.slice_split}
use Rattle.hls_writer.specs.Lines.{WrittenLine, line_bytes, lines_text}

-- a line has no inner LF
abbrev pub IsOneLine : WrittenLine → Type 0
IsOneLine line = All (λ b. (b == 10) ≡ false) (line_bytes line)

abbrev pub AreLines : List WrittenLine → Type 0
AreLines [] = Unit {0}
AreLines (line ∷ lines) = IsOneLine line × AreLines lines

-- Split at each LF, the text of some lines gives the lines, and nothing after the last one.
abbrev pub LinesAreReadAgain : Type 0
LinesAreReadAgain = (lines : List WrittenLine) → AreLines lines → slice_split (λ b. b == 10) (lines_text lines)
    ≡ map line_bytes lines ++ [] ∷ []

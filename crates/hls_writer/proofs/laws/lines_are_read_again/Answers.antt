use Rattle.hls_writer.proofs.laws.lines_are_read_again.Goals as goal
use Rattle.std.proofs.{Common.{◌≡◌, ◌==◌, ℕ, List, [], ◌∷◌, ◌++◌, map, refl, ap, ◌∙◌, append_assoc}, lemmas.List.Splits.slice_split_at}
use Rattle.std.specs.List.{slice_split}
use Rattle.hls_writer.specs.{Lines.{WrittenLine, line_bytes, lines_text}, Laws.AreLines}

cut : (lines : List WrittenLine) → AreLines lines → slice_split (λ (b : ℕ). b == 10) (lines_text lines) ≡ map line_bytes lines ++ [] ∷ []
cut [] whole = refl
cut (line ∷ lines) whole =
    ap (slice_split (λ (b : ℕ). b == 10)) (append_assoc (line_bytes line) (10 ∷ []) (lines_text lines))
    ∙ slice_split_at (λ (b : ℕ). b == 10) (line_bytes line) 10 (lines_text lines) whole.0 refl
    ∙ ap (λ parts. line_bytes line ∷ parts) (cut lines whole.1)

pub returns : goal.returns
returns c = cut

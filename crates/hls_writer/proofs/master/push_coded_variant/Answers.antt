use Rattle.std.proofs.Common.{◌≡◌, ℕ, List, [], ◌∷◌, ◌++◌, codes, decimal, refl, ap, sym, ◌∙◌, append_assoc, append-nil}
use Rattle.hls_writer.specs.Attributes.{WrittenAttribute, attributes_bytes, playlist_name}
use Rattle.hls_writer.specs.Lines.{variant, uri, line_bytes, line_text, lines_text}
use Rattle.bridge_io.proofs.Adding.{adds_same, adds_then, adds_stop_at}
use Rattle.hls_writer.proofs.master.push_coded_variant.Goals as goal

first_line : (first : WrittenAttribute) (others : List WrittenAttribute)
    → (codes "#EXT-X-STREAM-INF:" ++ attributes_bytes first others) ++ 10 ∷ [] ≡ line_text (variant first others)
unfolding line_bytes
first_line first others = refl

second_line : (track : ℕ) → codes "t" ++ (decimal track ++ (codes ".m3u8\n" ++ [])) ≡ lines_text (uri (playlist_name track) ∷ [])
unfolding line_bytes
second_line track = let name = decimal track ++ codes ".m3u8" in
    ap (λ t. 116 ∷ t) (sym (append-nil (name ++ 10 ∷ []) ∙ append_assoc (decimal track) (codes ".m3u8") (10 ∷ [])))

pub returns-in_err-push_tag : goal.returns-in_err-push_tag
returns-in_err-push_tag g c =
    adds_stop_at (lines_text (uri (playlist_name c.args.variant.track) ∷ [])) c.from_residual.result c.from_residual.ensures.1
    (adds_same (first_line _ _) (rw (c.bandwidth.ensures, c.attributes.ensures) at c.in_err-push_tag.ensures))

pub returns : goal.returns
returns g c =
    adds_then (lines_text (uri (playlist_name c.args.variant.track) ∷ []))
    (adds_same (first_line _ _) (rw (c.bandwidth.ensures, c.attributes.ensures) at c.in_ok-push_tag.ensures))
    (adds_same (second_line c.args.variant.track) c.push_pieces.ensures)

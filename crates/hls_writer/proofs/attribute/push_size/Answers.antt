use Rattle.std.proofs.Common.{◌≡◌, ℕ, List, [], ◌∷◌, ◌++◌, codes, decimal, ap, append-nil}
use Rattle.hls_writer.specs.Attributes.{attribute_bytes}
use Rattle.bridge_io.proofs.Adding.{adds_same}
use Rattle.hls_writer.proofs.attribute.push_size.Goals as goal

size_text : (width height : List ℕ) → codes "RESOLUTION=" ++ (width ++ (codes "x" ++ (height ++ [])))
    ≡ (codes "RESOLUTION=" ++ width) ++ 120 ∷ height
size_text width height = ap (λ t. codes "RESOLUTION=" ++ (width ++ 120 ∷ t)) (append-nil height)

pub returns : goal.returns
unfolding attribute_bytes
returns g c = adds_same (size_text (decimal c.args.size.width) (decimal c.args.size.height))
    (rw (c.from.ensures, c.from-2.ensures) at c.push_pieces.ensures)

use Rattle.std.proofs.Common.{◌≡◌, ℕ, ◌/◌, List, [], ◌∷◌, ◌++◌, codes, decimal, ap, append-nil}
use Rattle.iso_time.specs.Digits.{padded_digits}
use Rattle.hls_writer.specs.Attributes.{attribute_bytes}
use Rattle.bridge_io.proofs.Adding.{adds_same}
use Rattle.hls_writer.proofs.attribute.push_rate.Goals as goal

rate_text : (whole digits : List ℕ) → codes "FRAME-RATE=" ++ (whole ++ (codes "." ++ (digits ++ [])))
    ≡ codes "FRAME-RATE=" ++ (whole ++ 46 ∷ digits)
rate_text whole digits = ap (λ t. codes "FRAME-RATE=" ++ (whole ++ 46 ∷ t)) (append-nil digits)

pub returns : goal.returns
unfolding attribute_bytes
returns g c = adds_same (rate_text (decimal (c.args.thousandths / 1000)) (padded_digits 3 c.args.thousandths))
    (rw c.three_decimals.ensures at c.push_pieces.ensures)

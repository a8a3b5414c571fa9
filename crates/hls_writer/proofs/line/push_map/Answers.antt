use Rattle.std.proofs.Common.{◌≡◌, ℕ, List, [], ◌∷◌, ◌++◌, codes, decimal, ap, append_assoc}
use Rattle.hls_writer.specs.Lines.{line_bytes}
use Rattle.bridge_io.proofs.Adding.{adds_same}
use Rattle.hls_writer.proofs.line.push_map.Goals as goal

file : (up rest : List ℕ) → up ++ (rest ++ (34 ∷ (10 ∷ []))) ≡ (((up ++ rest) ++ (34 ∷ [])) ++ []) ++ (10 ∷ [])
file up rest = simp append_assoc

part : (up rest count first : List ℕ) → up ++ (rest ++ (codes "\",BYTERANGE=\"" ++ (count ++ (64 ∷ (first ++ (34 ∷ (10 ∷ [])))))))
    ≡ (((up ++ rest) ++ (34 ∷ [])) ++ (codes ",BYTERANGE=\"" ++ ((count ++ (64 ∷ first)) ++ (34 ∷ [])))) ++ (10 ∷ [])
part up rest count first = simp append_assoc

pub returns-in-None : goal.returns-in-None
unfolding line_bytes
returns-in-None g c = rw c.in-None.is (adds_same (ap (λ t. codes "#EXT-X-MAP:URI=\"" ++ t)
    (file c.args.address.up.now c.args.address.rest.now))
    (rw (c.as_bytes.ensures.value, c.as_bytes-2.ensures.value) at c.push_pieces.ensures))

pub returns-in-Some : goal.returns-in-Some
unfolding line_bytes
returns-in-Some g c = rw c.in-Some.is (adds_same (ap (λ t. codes "#EXT-X-MAP:URI=\"" ++ t)
    (part c.args.address.up.now c.args.address.rest.now (decimal c.in-Some.range.count) (decimal c.in-Some.range.first)))
    (rw (c.as_bytes.ensures.value, c.as_bytes-2.ensures.value) at c.push_pieces-in-Some.ensures))

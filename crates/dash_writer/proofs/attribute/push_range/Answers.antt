use Rattle.std.proofs.Common.{◌≡◌, ◌+◌, ◌-◌, ◌∷◌, ◌++◌, [], decimal, refl, ap, ◌∙◌, arith}
use Rattle.bridge_io.proofs.Adding.{adds_same}
use Rattle.dash_writer.proofs.Escaping.{numbers_stay}
use Rattle.dash_writer.proofs.attribute.push_range.Goals as goal

pub returns : goal.returns
returns g c = let range = c.args.range in
    let last : c.saturating_sub.result ≡ range.first + range.count - 1 = omega (
      arith,
      c.saturating_sub.ensures,
      c.from.ensures,
      c.from-2.ensures,
    ) in
    adds_same (ap (λ k. decimal range.first ++ (45 ∷ (decimal k ++ []))) last
    ∙ numbers_stay range.first 45 (range.first + range.count - 1) refl) c.push_pieces.ensures

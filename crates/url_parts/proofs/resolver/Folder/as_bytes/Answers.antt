use Rattle.std.proofs.Common.{◌≡◌, length, take, length-take, ℕ, ap, ◌∙◌, arith}
use Rattle.url_parts.proofs.Bases.{folder_of-take, length-folder_of}
use Rattle.url_parts.proofs.resolver.Folder.as_bytes.Goals as goal

pub returns-clause-text : goal.returns-clause-text
returns-clause-text c =
    let address = c.self.inside.address in
    let text : c.as_bytes.result.now ≡ address = c.as_bytes.ensures.value ∙ c.as_str.ensures.text in
    (λ i. take (c.self.invariant i) (text i)) ∙ folder_of-take address ∙ c.self.view_is

pub slice_bounds-result-end : goal.slice_bounds-result-end
slice_bounds-result-end c =
    let text : c.as_bytes.result.now ≡ c.self.inside.address = c.as_bytes.ensures.value ∙ c.as_str.ensures.text in
    omega (arith, c.self.invariant, ap length text, length-folder_of c.self.inside.address, length-take {A = ℕ})

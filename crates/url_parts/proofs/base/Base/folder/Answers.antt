use Rattle.url_parts.proofs.base.Base.folder.Goals as goal
use Rattle.std.proofs.{Common.{◌≡◌, ◌-◌, length, take, ap, ◌∙◌, arith}, lemmas.Str.IsCharBoundary-from_ascii}
use Rattle.url_parts.specs.Addresses.{text_of, folder_of}
use Rattle.url_parts.proofs.Bases.{folder_of-take, length-folder_of}

pub range-requires-clause-end_boundary : goal.range-requires-clause-end_boundary
range-requires-clause-end_boundary c =
    let spelled = ap length (rw c.deref.ensures at c.text_of.ensures.text) in
    IsCharBoundary-from_ascii c.text_of.result.now c.self.inside.folder c.text_of.ensures.ascii
    (omega (arith, c.self.invariant.folder_is, length-folder_of (text_of c.self.inside.url.value)))

pub returns-clause-text : goal.returns-clause-text
returns-clause-text c =
    let text = text_of c.self.inside.url.value in
    let end : c.self.inside.folder - 0 ≡ length (folder_of text) = omega (arith, c.self.invariant.folder_is) in
    let spelled = rw c.deref.ensures at c.text_of.ensures.text in
    c.range.ensures.value ∙ ap (λ n. take n c.text_of.result.now) end ∙ ap (take (length (folder_of text))) spelled ∙ folder_of-take text
    ∙ ap folder_of c.self.view_is

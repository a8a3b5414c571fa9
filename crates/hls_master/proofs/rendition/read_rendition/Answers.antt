use Rattle.hls_master.proofs.rendition.read_rendition.Goals as goal
use Rattle.std.proofs.{Common.{◌≡◌, Some, Ok, Err, ◌∙◌, ap}, lemmas.Result.err_from_is_err_and}
use Rattle.bridge_io.specs.Firsts.{first_some}
use Rattle.hls_master.specs.{Faults.{answer, mapped, refusal}, Renditions.{rendition_fault, rendition_faults, rendition_value}}
use Rattle.hls_master.specs.Renditions.{rendition_with}
use Rattle.hls_master.proofs.{Answers.passed_on, Renditions.of_kind}

pub returns-in_err-rendition_of-in-Some : goal.returns-in_err-rendition_of-in-Some
returns-in_err-rendition_of-in-Some c =
    let fault = err_from_is_err_and c.from_residual-in_err-rendition_of-in-Some.result
    c.from_residual-in_err-rendition_of-in-Some.ensures.1 in
    let a = c.args in
    let attributes = c.in_ok-attributes.attributes in
    let kind = of_kind a.base.now a.place attributes c.in-Some.kind (rw (c.get.ensures, c.in-Some.is) at c.in_ok-read_kind.ensures) in
    rw (fault.1, fault.2, c.in_ok-attributes.ensures)
    (passed_on (refusal c.in_err-rendition_of-in-Some.field-0.0)
    (λ f. answer (first_some (rendition_faults a.base.now a.place attributes c.in-Some.kind))
    (rendition_with a.base.now attributes c.in-Some.kind) ≡ Err f)
    (λ f. answer (rendition_fault a.base.now a.place (Ok attributes)) (rendition_value a.base.now (Ok attributes)) ≡ Err f)
    (λ f h. kind ∙ ap (mapped Some) h) c.in_err-rendition_of-in-Some.ensures)

pub returns : goal.returns
returns c =
    let a = c.args in
    let kind = of_kind a.base.now a.place c.in_ok-attributes.attributes c.in-Some.kind
    (rw (c.get.ensures, c.in-Some.is) at c.in_ok-read_kind.ensures) in
    rw c.in_ok-attributes.ensures (kind ∙ ap (mapped Some) c.in_ok-rendition_of-in-Some.ensures)

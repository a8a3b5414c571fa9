use Rattle.url_parts.proofs.spelling.Spelling.beside.Goals as goal
use Rattle.std.proofs.Common.{◌∙◌, ap}
use Rattle.url_parts.specs.Spelling.{steps_up}
use Rattle.url_parts.proofs.Spellings.{made}

pub returns : goal.returns
returns c =
    let base = c.args.folder.now in let out = c.args.out.now in let file = c.args.file.now in
    made base out file c.as_str.result.now c.in_ok-folder.folder c.in_ok-up.up c.in-Some.url c.in_ok-url-2.field-0
    (c.as_str.ensures.value ∙ c.in_ok-url.ensures.ok ∙ simp (c.as_str-base.ensures.text, c.as_str-out.ensures.text))
    c.in_ok-url-2.ensures c.in-Some.is c.in_ok-folder.ensures (c.in_ok-up.ensures ∙ ap steps_up c.as_str-out.ensures.text)

use Rattle.std.proofs.Common.{◌∙◌, string_bytes, subst, sym}
use Rattle.timeline.specs.ShorterTemplates.{AreNamesShortened}
use Rattle.timeline.proofs.MediaTemplates.{read_whole}
use Rattle.timeline.proofs.shorter_template.shortened.Goals as goal

pub returns-in-Ok : goal.returns-in-Ok
returns-in-Ok c =
    let whole = read_whole c.as_str-2.result.now c.in-Ok.short c.in-Ok.ensures in
    subst (λ short. AreNamesShortened c.args.in_path c.args.template.now short) (sym c.as_str-2.ensures.value ∙ whole)
    (subst (λ media. AreNamesShortened c.args.in_path media (string_bytes c.in_ok-text.text)) c.as_str.ensures.text
    c.in_ok-text.ensures)

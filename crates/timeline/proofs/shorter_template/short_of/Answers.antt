use Rattle.std.proofs.Common.{IfSome, refl, subst, true}
use Rattle.url_parts.specs.Paths.{IsPath}
use Rattle.timeline.specs.ShorterTemplates.{AreNamesShortened}
use Rattle.timeline.proofs.MediaTemplates.{short_from}
use Rattle.timeline.proofs.shorter_template.short_of.Goals as goal

pub returns-in-Some : goal.returns-in-Some
returns-in-Some c = short_from c.args.template.now c.in-Some.short (record {
  alike = subst (λ short. IfSome short (AreNamesShortened true c.args.template.now)) c.in-Some.is c.in_ok-short.ensures;
  path = subst IsPath c.as_str-text.ensures.text (c.is_path.ensures c.if-not-is_path.false);
  path_too = subst IsPath c.as_str.ensures.text (c.if-is_path.ensures refl);
  read = c.as_str-text.ensures.template;
  read_too = c.as_str.ensures.template;
})

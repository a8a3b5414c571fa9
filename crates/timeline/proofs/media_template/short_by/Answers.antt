use Rattle.std.proofs.Common.{IfSome, subst}
use Rattle.timeline.specs.MediaTemplates.{IsLineOf}
use Rattle.timeline.proofs.MediaTemplates.{short_behind}
use Rattle.timeline.proofs.media_template.short_by.Goals as goal

pub returns-in-Some : goal.returns-in-Some
returns-in-Some c = short_behind c.args.template.now c.in-Some.line c.short_of.result
    (subst (λ line. IfSome line (IsLineOf c.args.template.now)) c.in-Some.is c.requires) c.short_of.ensures

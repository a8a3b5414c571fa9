use Rattle.bridge_report.specs.declared.refusal.Refusal.TheVariants.{Base}
use Rattle.publish_core.specs.declared.refusal.Refused.TheVariants.{Read}
use Rattle.std.proofs.Common.{List, Result, ◌∙◌, ap, subst, sym}
use Rattle.bridge_io.specs.Answer.{Gives}
use Rattle.publish_core.specs.{Refusals.{Named, stopped}, Sides.{FileName, names_by, names_in}}
use Rattle.publish_core.proofs.Refusing.{refused_with}
use Rattle.publish_core.proofs.side.names_in.Goals as goal

pub returns-in-Some-clause-names : goal.returns-in-Some-clause-names
unfolding names_in
returns-in-Some-clause-names c =
    subst (λ (given : Result (List FileName) Named). Gives (λ names. names) stopped c.names_under.result given)
    (ap (names_by c.args.file.now c.args.tracks.now) (sym c.in-Some.is ∙ c.in_ok-url.ensures)) c.names_under.ensures.names

pub returns-in-None-clause-names : goal.returns-in-None-clause-names
unfolding names_in
returns-in-None-clause-names c =
    refused_with (stopped c.at.result) (c.args.file.now, Read Base) (names_in c.args.folder.now c.args.file.now c.args.tracks.now)
    c.at.ensures.told (ap (names_by c.args.file.now c.args.tracks.now) (sym c.in_ok-url.ensures ∙ c.in-None.is))

use Rattle.bridge_report.specs.declared.refusal.Refusal.TheVariants.{Base}
use Rattle.publish_core.specs.declared.refusal.Refused.TheVariants.{Read}
use Rattle.std.proofs.Common.{List, Result, ◌∙◌, ap, subst, sym}
use Rattle.bridge_io.specs.Answer.{Gives}
use Rattle.hls_master.specs.declared.track.MasterTrack.{MasterTrack}
use Rattle.publish_core.specs.{Refusals.{Named, stopped}, Sides.{master_by, master_in}}
use Rattle.publish_core.proofs.Refusing.{refused_with}
use Rattle.publish_core.proofs.side.master_in.Goals as goal

pub returns-in-Some-clause-master : goal.returns-in-Some-clause-master
unfolding master_in
returns-in-Some-clause-master c =
    subst (λ (given : Result (List MasterTrack) Named). Gives (λ master. master) stopped c.master_under.result given)
    (ap (master_by c.args.file.now c.args.text.now) (sym c.in-Some.is ∙ c.in_ok-url.ensures)) c.master_under.ensures.master

pub returns-in-None-clause-master : goal.returns-in-None-clause-master
unfolding master_in
returns-in-None-clause-master c =
    refused_with (stopped c.at.result) (c.args.file.now, Read Base) (master_in c.args.file.now c.args.text.now)
    c.at.ensures.told (ap (master_by c.args.file.now c.args.text.now) (sym c.in_ok-url.ensures ∙ c.in-None.is))

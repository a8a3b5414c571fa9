use Rattle.bridge_courses.specs.declared.ending.Ending.TheVariants as ending
use Rattle.std.proofs.Common.{◌≡◌, Err, Some, inl, inr, refl, sym, ap, subst, ◌∙◌, arith}
use Rattle.bridge_io.specs.{InOrder.put_all, Outside.Changes}
use Rattle.bridge_courses.proofs.Stepping.{caused_later}
use Rattle.bridge_steps.specs.Follow.{IsCausedBy, beside_input, files_seen, world_beside}
use Rattle.bridge_steps.proofs.Caused.{caused_by, cut_caused}
use Rattle.bridge_steps.proofs.FrameSteps.{accepted_done, accepted_stops, refused_done, refused_stops, left_accepted, left_refused}
use Rattle.bridge_steps.proofs.FrameSteps.{halts_from, one_more, no_more}
use Rattle.bridge_steps.proofs.run.follow_frame.Goals as goal

pub returns-in-Ok-publish-clause-done : goal.returns-in-Ok-publish-clause-done
returns-in-Ok-publish-clause-done g c = λ files seen.
    let t = g.T.Follow in let told = t.told c.args.followed.now files in let s = c.args.live.now in
    let before = beside_input g.F.Store g.P.Sink c.args.store.now c.args.report.now c.args.steps.now in
    let after = beside_input g.F.Store g.P.Sink c.publish.new.store c.publish.new.report c.accept.new.steps in
    let same = c.accept.ensures.files in
    let put = c.in-Ok-publish.ensures.files files (ap (files_seen (t.reads c.args.followed.now)) same ∙ seen) in
    accepted_done told s c.args.index c.args.frame.now before after c.accept.new.live c.in-Ok.appended
    (c.in-Ok.ensures.accepted files seen) (subst (λ fs. Changes (put_all (told.files c.accept.new.live)) fs after.files) same put)
    c.in-Ok-publish.ensures.line

pub returns-in-Ok-publish-clause-next : goal.returns-in-Ok-publish-clause-next
returns-in-Ok-publish-clause-next g c = λ files seen.
    let told = g.T.Follow.told c.args.followed.now files in let is = c.in-Ok.ensures.accepted files seen in (
      left_accepted told c.args.live.now c.args.index c.args.frame.now c.accept.new.live is.accepted is.after,
      one_more told c.args.live.now c.args.index c.args.frame.now c.args.accepted is.accepted,
    )

pub returns-in-Ok-clause-stops : goal.returns-in-Ok-clause-stops
returns-in-Ok-clause-stops g c = λ files seen.
    let t = g.T.Follow in let told = t.told c.args.followed.now files in let s = c.args.live.now in
    let before = beside_input g.F.Store g.P.Sink c.args.store.now c.args.report.now c.args.steps.now in
    let after = beside_input g.F.Store g.P.Sink c.publish.new.store c.publish.new.report c.accept.new.steps in
    let same = c.accept.ensures.files in
    let halts = c.in-Err.ensures.err files (ap (files_seen (t.reads c.args.followed.now)) same ∙ seen) in
    inl (accepted_stops told s c.args.index c.args.frame.now before after c.in-Err.told c.accept.new.live c.in-Ok.appended
    (c.in-Ok.ensures.accepted files seen) (halts_from _ _ _ _ _ _ _ same c.accept.ensures.writes halts))

pub returns-in-Ok-clause-caused : goal.returns-in-Ok-clause-caused
returns-in-Ok-clause-caused g c = λ input input'. caused_by _ _ _ _
    (caused_later c.in-Err.told _ (world_beside g.F.Store g.P.Sink input c.accept.new.store c.args.report.now c.accept.new.steps) _
    (record { input = omega arith; reads = c.accept.ensures.cause.never_falls; writes = omega arith; report = omega arith })
    (c.in-Err.ensures.caused input input' c.accept.new.steps))

pub returns-in-Ok-tell_refusal-clause-done : goal.returns-in-Ok-tell_refusal-clause-done
returns-in-Ok-tell_refusal-clause-done g c = λ files seen.
    let told = g.T.Follow.told c.args.followed.now files in let s = c.args.live.now in
    let why = c.in-Err-Refused.why in let made = c.in-Err-Refused.ensures.made files seen in
    let is : told.refusal s c.args.frame.now ≡ Some why = (rw c.in-Err-Refused.field-0-is at c.in-Err-Refused.ensures.refused) files seen in
    let before = beside_input g.F.Store g.P.Sink c.args.store.now c.args.report.now c.args.steps.now in
    let after = beside_input g.F.Store g.P.Sink c.accept.new.store c.tell_refusal.new.report c.accept.new.steps in
    refused_done told s c.args.index c.args.frame.now before after why is c.accept.ensures.files made.0 made.1
    c.in-Ok-tell_refusal.ensures.line

pub returns-in-Ok-tell_refusal-clause-next : goal.returns-in-Ok-tell_refusal-clause-next
returns-in-Ok-tell_refusal-clause-next g c = λ files seen.
    let told = g.T.Follow.told c.args.followed.now files in let s = c.args.live.now in let why = c.in-Err-Refused.why in
    let is : told.refusal s c.args.frame.now ≡ Some why =
    (rw c.in-Err-Refused.field-0-is at c.in-Err-Refused.ensures.refused) files seen in (
      left_refused told s c.args.index c.args.frame.now c.accept.new.live why is c.in-Err-Refused.ensures.same,
      no_more told s c.args.index c.args.frame.now c.args.accepted why is,
    )

pub returns-in-Err-Refused-clause-stops : goal.returns-in-Err-Refused-clause-stops
returns-in-Err-Refused-clause-stops g c = λ files seen.
    let told = g.T.Follow.told c.args.followed.now files in let s = c.args.live.now in
    let why = c.in-Err-Refused.why in let made = c.in-Err-Refused.ensures.made files seen in
    let is : told.refusal s c.args.frame.now ≡ Some why = (rw c.in-Err-Refused.field-0-is at c.in-Err-Refused.ensures.refused) files seen in
    let before = beside_input g.F.Store g.P.Sink c.args.store.now c.args.report.now c.args.steps.now in
    let after = beside_input g.F.Store g.P.Sink c.accept.new.store c.tell_refusal.new.report c.accept.new.steps in
    inl (refused_stops told s c.args.index c.args.frame.now before after why is c.accept.ensures.files made.0 made.1
    c.in-Err-tell_refusal.told c.in-Err-tell_refusal.ensures.err)

pub returns-in-Err-Refused-clause-caused : goal.returns-in-Err-Refused-clause-caused
returns-in-Err-Refused-clause-caused g c = λ input input'. caused_by _ _ _ _ (cut_caused _ _ _ _ c.in-Err-tell_refusal.ensures.err)

-- a read failed
pub returns-in-Err-ReadFault-clause-stops : goal.returns-in-Err-ReadFault-clause-stops
returns-in-Err-ReadFault-clause-stops g c = λ files seen.
    let is = c.in-Err-ReadFault.is ∙ ap Err c.in-Err-ReadFault.field-0-is in let accept = c.accept.ensures in
    inr (refl, accept.cause.rose is, accept.files, refl, (accept.read_fault is).1)

pub returns-in-Err-ReadFault-clause-caused : goal.returns-in-Err-ReadFault-clause-caused
returns-in-Err-ReadFault-clause-caused g c = λ input input'.
    let is = c.in-Err-ReadFault.is ∙ ap Err c.in-Err-ReadFault.field-0-is in
    let before = world_beside g.F.Store g.P.Sink input c.args.store.now c.args.report.now c.args.steps.now in
    let after = world_beside g.F.Store g.P.Sink input' c.accept.new.store c.args.report.now c.accept.new.steps in
    subst (λ reads. IsCausedBy reads ending.ReadFault before after) (sym (c.accept.ensures.read_fault is).0)
    (inr (c.accept.ensures.cause.rose is))

-- memory ran out
pub returns-clause-stops : goal.returns-clause-stops
returns-clause-stops g c = λ files seen. let made = c.in-Err-Memory.ensures.made files seen in
    inl (inr (refl, c.accept.ensures.files, refl, made.0, made.1))

pub returns-clause-caused : goal.returns-clause-caused
returns-clause-caused g c = λ input input'. caused_by _ _ _ _ tt

use Rattle.std.proofs.Common.{rules, ap, length, arith}
use Rattle.timeline.specs.Listed.{timing_of}
use Rattle.live_judge.proofs.Counts.{first_new_is, none_more, none_yet}
use Rattle.live_judge.proofs.track_next.TrackNext.first_new.Goals as goal

pub loop-section-init : goal.loop-section-init
loop-section-init c = none_yet c.args.self.now c.requires

pub returns-in-Some : goal.returns-in-Some
returns-in-Some c =
    first_new_is c.args.self.now c.loop-section.section c.number-number.result (timing_of c.in-Some.span)
    (omega (arith, ap length c.sections.ensures)) c.loop-section.invariant
    c.in-Some.ensures.0 c.in-Some.ensures.1 c.number-number.ensures

pub loop-section-preserved : goal.loop-section-preserved
loop-section-preserved c =
    none_more c.args.self.now c.loop-section.section (omega (arith, ap length c.sections.ensures)) (search rules) c.loop-section.invariant

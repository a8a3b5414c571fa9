use Rattle.timeline.proofs.limits.Limits.are_broken.Goals as goal
use Rattle.std.proofs.{Common.arith, lemmas.Bool.Decides.nat_tests}
use Rattle.timeline.proofs.{LimitLemmas.breaks_media, limits.Limits.are_broken.Goals.{then-end-ge-END, else-end-ge-END}}

pub returns-then-ticks-from : goal.returns-then-ticks-from
returns-then-ticks-from c =
    let same = breaks_media c.args.self.now c.args.end c.args.step c.requires in
    elim c.if-end-ge-END.branch [ then-end-ge-END w ↦ grind (arith, nat_tests) | else-end-ge-END w ↦ grind (arith, nat_tests) ]

pub returns-else-ticks-from : goal.returns-else-ticks-from
returns-else-ticks-from c =
    let same = breaks_media c.args.self.now c.args.end c.args.step c.requires in
    elim c.if-end-ge-END.branch [ then-end-ge-END w ↦ grind (arith, nat_tests) | else-end-ge-END w ↦ grind (arith, nat_tests) ]

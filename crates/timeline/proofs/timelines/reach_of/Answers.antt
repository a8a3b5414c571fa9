use Rattle.timeline.proofs.timelines.reach_of.Goals as goal
use Rattle.std.proofs.{Common.{◌≡◌, ◌+◌, ◌*◌, rules}, lemmas.Int.to_z-of_z}
use Rattle.timeline.proofs.Reached.{reach_up_to_media, reach_up_to_end, reach_next, reach_last}
use mir.Val.{SFits}
use mir.Syntax.{w64}

pub returns-in-Some-t : goal.returns-in-Some-t
returns-in-Some-t c =
    let fits : SFits w64 c.args.entry.now.r = search rules in
    let meant = reach_next c.args.scale c.args.end.now c.args.entry.now.r c.args.later.now c.in-Some.next.now c.in-Some-t.bound fits
    (λ h. c.in_default.ensures (rw (to_z-of_z w64 c.args.entry.now.r fits) h)) c.in-Some.ensures.value c.in-Some-t.is in
    rw meant (reach_up_to_media c.args.scale c.args.start c.args.entry.now.d c.requires.lasting c.in-Some-t.bound c.up_to.result
    (rw (← c.from-in-Some-t.ensures, ← c.from-in-Some-t-2.ensures) c.up_to.ensures))

pub returns-in-At : goal.returns-in-At
returns-in-At c =
    let fits : SFits w64 c.args.entry.now.r = search rules in
    let meant = reach_last c.args.scale c.args.end.now c.args.entry.now.r c.args.later.now c.in-At.length fits
    (λ h. c.in_default.ensures (rw (to_z-of_z w64 c.args.entry.now.r fits) h)) c.in-None.ensures.value c.in-At.is in
    let bound : c.from-in-At.result * c.from-in-At-2.result + c.from-in-At-3.result * 1000000000
    ≡ c.in-At.length * c.args.scale.ticks + c.args.scale.offset * 1000000000 =
    cc (c.from-in-At.ensures, c.length.view_is, c.from-in-At-2.ensures, c.from-in-At-3.ensures) in
    rw meant (reach_up_to_end c.args.scale c.args.start c.args.entry.now.d c.requires.lasting c.in-At.length c.up_to-in-At.result
    (rw (← bound, ← c.from-in-At-4.ensures) c.up_to-in-At.ensures))

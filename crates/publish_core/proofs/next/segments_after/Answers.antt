use Rattle.std.proofs.{Common.{rules, arith}, lemmas.List.nil_from_length}
use Rattle.publish_core.proofs.Counted.{none_after}
use Rattle.publish_core.proofs.next.segments_after.Goals as goal

pub returns-in_default : goal.returns-in_default
returns-in_default c =
    let told = rw (nil_from_length c.loop-track.changes.now (search rules)) at c.loop-track.invariant.told in
    omega (arith, told, none_after c.loop-track.tracks.now, c.loop-track.invariant.fits)

pub returns-in_default-2 : goal.returns-in_default-2
returns-in_default-2 c =
    let told = rw (nil_from_length c.loop-track.tracks.now (search rules)) at c.loop-track.invariant.told in
    omega (arith, told, c.loop-track.invariant.fits)

use Rattle.std.proofs.Common.{◌∙◌, ◌+◌, ap, arith, sym}
use Rattle.differences.specs.Contents.{track_noted}
use Rattle.differences.proofs.Places.{both_end, next_section}
use Rattle.differences.proofs.contents.Both.add_track.Goals as goal

pub returns : goal.returns
returns g c = sym (c.loop-place.invariant
    ∙ both_end c.args.self.now c.args.track c.loop-place.place c.loop-place.found (omega arith) (omega arith))

pub loop-place-preserved : goal.loop-place-preserved
loop-place-preserved g c =
    let both = c.args.self.now in let t = c.args.track in let k = c.loop-place.place in
    c.loop-place.invariant ∙ next_section both t k c.loop-place.found
    ∙ ap (track_noted both t (k + 1)) (sym c.in_ok-add_section.ensures)

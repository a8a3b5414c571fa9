use Rattle.dash_writer.proofs.sets.push_set.Given as goal
use Rattle.std.proofs.Common.{◌+◌, drop}
use Rattle.dash_writer.specs.{Outline.track_elements, Written.elements_text}
use Rattle.dash_writer.proofs.Progress.{Progress}

abbrev pub invariant-loop-index : goal.invariant-loop-index
invariant-loop-index g l =
    let lists = g.T.TrackLists.lists l.lists l.section in
    Progress g.F.Store (elements_text (track_elements lists l.place l.set))
    (elements_text (track_elements lists (l.place + l.index) (drop l.index l.set)))
    l.initial.sheet l.sheet

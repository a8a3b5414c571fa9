use Rattle.dash_writer.proofs.outline.Outline.push_periods.Given as goal
use Rattle.std.proofs.Common.{drop}
use Rattle.dash_writer.specs.{Given.outline_of, Outline.{heads_from, period_elements}, Written.elements_text}
use Rattle.dash_writer.proofs.Progress.{Progress}

abbrev pub invariant-loop-place : goal.invariant-loop-place
invariant-loop-place g l =
    let head = g.P.Period.head in let o = outline_of head g.T.TrackLists.lists l.self in
    Progress g.F.Store (elements_text (period_elements o 0 o.periods)) (elements_text
    (period_elements o l.place (heads_from head l.place (drop l.place l.self.periods.now))))
    l.initial.sheet l.sheet

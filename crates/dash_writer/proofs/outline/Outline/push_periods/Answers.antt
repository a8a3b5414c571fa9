use Rattle.dash_writer.proofs.outline.Outline.push_periods.Goals as goal
use Rattle.std.proofs.{Common.{◌+◌, drop, ap}, lemmas.List.drop_all}
use Rattle.dash_writer.specs.{Given.outline_of, Outline.{heads_from, period_elements}, Written.elements_text}
use Rattle.dash_writer.proofs.{Progress.{all_added, fails, further, nothing_yet}, Sections.periods_behind}

pub loop-place-init : goal.loop-place-init
loop-place-init g c = nothing_yet _ _

pub returns-in_err-push_period : goal.returns-in_err-push_period
returns-in_err-push_period g c = let head = g.P.Period.head in let o = outline_of head g.T.TrackLists.lists c.args.self.now in
    let periods = c.args.self.now.periods.now in let k = c.loop-place.place in
    fails c.loop-place.invariant _ (elements_text (period_elements o (k + 1) (heads_from head (k + 1) (drop (k + 1) periods))))
    (periods_behind o head periods k c.period-item.result c.loop-place-test.true c.period-item.is)
    c.from_residual.result c.from_residual.ensures.1 c.in_err-push_period.ensures

pub loop-place-preserved : goal.loop-place-preserved
loop-place-preserved g c = let head = g.P.Period.head in let o = outline_of head g.T.TrackLists.lists c.args.self.now in
    let periods = c.args.self.now.periods.now in let k = c.loop-place.place in
    further c.loop-place.invariant _ (elements_text (period_elements o (k + 1) (heads_from head (k + 1) (drop (k + 1) periods))))
    (periods_behind o head periods k c.period-item.result c.loop-place-test.true c.period-item.is) c.in_ok-push_period.ensures

pub returns : goal.returns
returns g c = let head = g.P.Period.head in let o = outline_of head g.T.TrackLists.lists c.args.self.now in
    all_added c.loop-place.invariant
    (ap (λ periods. elements_text (period_elements o c.loop-place.place (heads_from head c.loop-place.place periods)))
    (drop_all c.loop-place.place c.args.self.now.periods.now c.loop-place-test.false))

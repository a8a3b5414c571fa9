use Rattle.mpd_rules.proofs.build.Building.periods.Goals as goal
use Rattle.std.proofs.{Common.{◌+◌, ◌++◌, ◌∷◌, ap, drop, sym, ◌∙◌, arith}, lemmas.List.drop_more, lemmas.List.Sums.sum_by-cons}
use Rattle.std.proofs.lemmas.Result.{err_from_is_err_and}
use Rattle.mpd_tree.specs.Nodes.{element_of}
use Rattle.mpd_levels.proofs.Showing.{Grows-then}
use Rattle.mpd_rules.specs.{Built.{period_refused, period_shown}, Fits.FitsPeriod, Kept.left_in_period, Rules.second_told}
use Rattle.mpd_rules.proofs.{Building.one_pushed, Refusing.{IsFirst, first_of_more, none_first, none_told}, Walking.{all_here, one_left}}

pub period-requires : goal.period-requires
period-requires g c = all_here element_of FitsPeriod c.args.periods.now c.loop-place.place c.index-periods-place.result c.requires.fits
    c.loop-place-test.true c.index-periods-place.is

pub returns-in_err-period-clause-refused : goal.returns-in_err-period-clause-refused
returns-in_err-period-clause-refused g c =
    let p = err_from_is_err_and c.from_residual-in_err-period.result c.from_residual-in_err-period.ensures.1 in
    let e = element_of c.index-periods-place.result in
    let here = one_left element_of c.args.periods.now c.loop-place.place c.index-periods-place.result c.loop-place-test.true
    c.index-periods-place.is in
    let none = none_told (second_told c.args.many c.loop-place.place e) tt c.in_ok-check_second.field-0 c.in_ok-check_second.ensures in
    let told : IsFirst c.in_err-period.field-0.0 (second_told c.args.many c.loop-place.place e
    ++ period_refused g.X.FromLevels.refused g.X.FromLevels.of e) = rw none.0 c.in_err-period.ensures.refused in
    rw (p.1, p.2) (first_of_more c.in_err-period.field-0.0 (second_told c.args.many c.loop-place.place e
    ++ period_refused g.X.FromLevels.refused g.X.FromLevels.of e) _ _ (rw here at c.loop-place.invariant.refused) told)

pub loop-place-preserved : goal.loop-place-preserved
loop-place-preserved g c =
    let i = c.loop-place.invariant in
    let e = element_of c.index-periods-place.result in
    let here = one_left element_of c.args.periods.now c.loop-place.place c.index-periods-place.result c.loop-place-test.true
    c.index-periods-place.is in
    let bounds = drop_more c.args.bounds.now c.loop-place.place c.index-bounds-place.result
    (omega (arith, c.requires.count, c.loop-place-test.true))
    ∙ ap (λ b. b ∷ drop (c.loop-place.place + 1) c.args.bounds.now) (sym c.index-bounds-place.is) in
    record {
      left_out = omega (arith, c.in_ok-period.ensures.left_out, rw (here, sum_by-cons left_in_period) at i.left_out);
      refused =
          let none = none_told (second_told c.args.many c.loop-place.place e) tt c.in_ok-check_second.field-0
          c.in_ok-check_second.ensures in
          let none_in = none_first (period_refused g.X.FromLevels.refused g.X.FromLevels.of e) c.in_ok-period.ensures.refused in
          rw (none.0, none_in) at (rw here at i.refused);
      rows = λ later grows.
          one_pushed (period_shown g.X.FromLevels.shown later) c.loop-place.rows c.push.new.self c.in_ok-period.field-0 _ _ _
          c.in_ok-push.ensures.ok
          (c.in_ok-period.ensures.row later grows)
          (rw (here, bounds) at (i.rows later (Grows-then c.period.ensures.grows grows)));
    }

use Rattle.mpd_rules.proofs.periods.read_bounds.Goals as goal
use Rattle.std.proofs.Common.{◌≡◌, ◌+◌, ◌∷◌, ◌++◌, [], Ok, None, map, drop, sym, ◌∙◌, ap, subst, append_assoc, All}
use Rattle.std.proofs.{lemmas.List.{append-nil, at_drop_all}, lemmas.Result.err_from_is_err_and}
use Rattle.mpd_tree.specs.Nodes.{element_of}
use Rattle.mpd_rules.specs.{Fits.FitsPeriod, Periods.{bounds_of, order_told, period_bounds, period_refusals}, Rules.unless_refused}
use Rattle.mpd_rules.proofs.{Bounding.{bounds_go_on, order_goes_on}, Refusing.{first_of_more, one_first, unless_first}}
use Rattle.mpd_rules.proofs.Walking.{all_here, all_later, one_left, rest_is}

pub one_bounds-requires-clause-one : goal.one_bounds-requires-clause-one
one_bounds-requires-clause-one c =
    all_here element_of FitsPeriod c.args.periods.now c.loop-place.place c.index-periods-place.result
    (rw c.requires.these c.requires.fits.periods) c.loop-place-test.true c.index-periods-place.is

pub one_bounds-requires-clause-behind : goal.one_bounds-requires-clause-behind
one_bounds-requires-clause-behind c =
    subst (λ ns. All FitsPeriod (map element_of ns)) (sym (rest_is c.args.periods.now (c.loop-place.place + 1)))
    (all_later element_of FitsPeriod c.args.periods.now (c.loop-place.place + 1) (rw c.requires.these c.requires.fits.periods))

pub returns-in_err-one : goal.returns-in_err-one
unfolding period_refusals
returns-in_err-one c =
    let p = err_from_is_err_and c.from_residual.result c.from_residual.ensures.1 in
    let told = rw (rest_is c.args.periods.now (c.loop-place.place + 1)) at c.in_err-one.ensures in
    let here = one_left element_of c.args.periods.now c.loop-place.place c.index-periods-place.result c.loop-place-test.true
    c.index-periods-place.is in
    rw (p.1, p.2) (unless_first c.in_err-one.field-0.0 (order_told None (period_bounds (element_of c.args.mpd)))
    (map bounds_of (period_bounds (element_of c.args.mpd)))
    (first_of_more c.in_err-one.field-0.0 _ _ (order_told None (period_bounds (element_of c.args.mpd)))
    (rw here at c.loop-place.invariant.refused) (one_first _ c.in_err-one.field-0.0 _ told)))

pub end_said-default-requires : goal.end_said-default-requires
end_said-default-requires c =
    all_here element_of FitsPeriod c.args.periods.now c.loop-place.place c.index-periods-place.result
    (rw c.requires.these c.requires.fits.periods) c.loop-place-test.true c.index-periods-place.is

pub loop-place-preserved : goal.loop-place-preserved
loop-place-preserved c =
    let node = c.index-periods-place.result in
    let later = map element_of (drop (c.loop-place.place + 1) c.args.periods.now) in
    let told = rw (rest_is c.args.periods.now (c.loop-place.place + 1)) at c.in_ok-one.ensures in
    let here = one_left element_of c.args.periods.now c.loop-place.place node c.loop-place-test.true c.index-periods-place.is in
    record {
      refused = rw (c.nanos-former.ensures, c.end_said-default.ensures)
          (sym (order_goes_on c.nanos-total.result c.loop-place.former c.loop-place.default (element_of node) later c.in_ok-one.one told)
          ∙ rw here at c.loop-place.invariant.refused);
      bounds = rw (c.in_ok-push.ensures.ok, c.end_said-default.ensures)
          (append_assoc c.loop-place.bounds (c.in_ok-one.one ∷ []) _
          ∙ ap (λ bs. c.loop-place.bounds ++ bs) (sym (bounds_go_on c.nanos-total.result c.loop-place.former c.loop-place.default
          (element_of node) later c.in_ok-one.one told))
          ∙ rw here at c.loop-place.invariant.bounds);
    }

pub returns : goal.returns
unfolding period_refusals
returns c =
    let i = c.loop-place.invariant in
    let left = at_drop_all (map element_of) c.args.periods.now c.loop-place.place c.loop-place-test.false in
    let refused : order_told None (period_bounds (element_of c.args.mpd)) ≡ [] = sym (rw left at i.refused) in
    let bounds = rw left at i.bounds in
    ap (λ fs. unless_refused fs (map bounds_of (period_bounds (element_of c.args.mpd)))) refused
    ∙ ap Ok (sym bounds ∙ append-nil c.loop-place.bounds)

use Rattle.std.proofs.Common.{◌≡◌, ap, map, refl, rules, Some}
use Rattle.std.proofs.lemmas.Option.{slice_get-map, slice_get_read}
use Rattle.std.specs.Prelude.{slice_get}
use Rattle.live_meaning.specs.Known.{ids_of}
use Rattle.live_judge.specs.{declared.known.KnownPeriod.KnownPeriod, Known.known_shown}
use Rattle.live_judge.proofs.Ordering.{order_with_one}
use Rattle.live_judge.proofs.order.order_with.Goals as goal

pub loop-place-preserved : goal.loop-place-preserved
loop-place-preserved c =
    let periods = c.args.periods.now in
    let place = c.loop-place.place in
    let read : slice_get periods place ≡ Some c.index-periods-place.result =
    slice_get_read periods _ place _ refl (search rules) c.index-periods-place.is in
    let there : slice_get (ids_of (map known_shown periods)) place ≡ Some c.as_str.result.now =
    rw (slice_get-map, slice_get-map, read, c.as_str.ensures) (ap (λ (k : KnownPeriod). Some k.id) c.index-periods-place.is) in
    let rank = rw c.deref.ensures.value at c.rank_of-rank.ensures.rank in
    let within = rw c.deref.ensures.value at c.rank_of-rank.ensures.within in
    (search rules, rw c.in_ok-insert.ensures.items (order_with_one _ _ _ c.loop-place.invariant.1 _ _ rank there within))

use Rattle.std.proofs.Common.{◌≡◌, arith, length, map}
use Rattle.std.proofs.lemmas.List.{length-map, map-append}
use Rattle.live_meaning.specs.Known.{ids_of}
use Rattle.live_judge.specs.{Known.known_shown}
use Rattle.live_judge.proofs.Ordering.{more_ids}
use Rattle.live_judge.proofs.known.KnownPeriods.extend.Goals as goal

pub order_with-requires-clause-former : goal.order_with-requires-clause-former
order_with-requires-clause-former c =
    let own = c.self.inside.periods.items in
    let ids = ids_of (map known_shown own) in
    let count : c.len-count.result ≡ length ids =
    omega (
      arith,
      c.len-count.ensures,
      c.self.inside.periods.ok.0,
      length-map own known_shown,
      length-map (map known_shown own)
          (λ k. k.id),
    ) in
    let is = more_ids ids (ids_of (map known_shown c.args.new.items)) _ c.self.invariant.all in
    rw (c.deref.ensures.value, c.deref-2.ensures.value, c.in_ok-append.ensures.items, map-append, map-append, count) is

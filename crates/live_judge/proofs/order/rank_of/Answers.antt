use Rattle.std.proofs.Common.{map, rules}
use Rattle.std.proofs.lemmas.List.Sorted.{IsPartitionPoint-from_clause}
use Rattle.live_meaning.specs.Known.{ids_of}
use Rattle.live_judge.specs.{Known.known_shown, Order.is_before}
use Rattle.live_judge.proofs.order.rank_of.Goals as goal

pub returns-clause-rank : goal.returns-clause-rank
returns-clause-rank c =
    let before = is_before (ids_of (map known_shown c.args.periods.now)) c.args.id.now in
    IsPartitionPoint-from_clause before _ _ c.partition_point.ensures.partitioned (c.requires c.args.id.now) (λ a r q k. search rules)

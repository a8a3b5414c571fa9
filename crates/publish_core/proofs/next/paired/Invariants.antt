-- the pairs so far, and then those of the tracks that are left, are all
use Rattle.std.proofs.Common.{◌≡◌, ◌++◌}
use Rattle.std.specs.Vec.Iter.{into_iter_items, into_iter_len}
use Rattle.publish_core.specs.Decisions.{names_of, paired}
use Rattle.publish_core.proofs.next.paired.Given as goal

abbrev pub invariant-loop-new : goal.invariant-loop-new
invariant-loop-new l = record {
  names : l.names ++ names_of (into_iter_items l.news) (into_iter_items l.olds) ≡ names_of l.fn.new l.fn.served;
  tracks : l.tracks ++ paired (into_iter_items l.news) (into_iter_items l.olds) ≡ paired l.fn.new l.fn.served;
}

abbrev pub decreases-loop-new : goal.decreases-loop-new
decreases-loop-new l = into_iter_len l.news

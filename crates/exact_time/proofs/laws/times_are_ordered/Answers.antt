use Rattle.exact_time.proofs.TimeOrder.{at_most-true, at_most-from, before-true, before-from, IsAtMost-trans, before_or_at_most}
use Rattle.exact_time.proofs.TimeOrder.{before_excludes, same_is_at_most, same_is_at_least, same_from_both}
use Rattle.exact_time.proofs.laws.times_are_ordered.Goals as goal

pub returns-clause-transitive : goal.returns-clause-transitive
returns-clause-transitive c = IsAtMost-trans

pub returns-clause-total : goal.returns-clause-total
returns-clause-total c = before_or_at_most

pub returns-clause-exclusive : goal.returns-clause-exclusive
returns-clause-exclusive c = before_excludes

pub returns-clause-antisymmetric : goal.returns-clause-antisymmetric
returns-clause-antisymmetric c x y = (
  λ same. (same_is_at_most x y same, same_is_at_least x y same),
  λ both. same_from_both x y both.0 both.1,
)

pub returns-clause-tests : goal.returns-clause-tests
returns-clause-tests c x y = ((before-true x y, before-from x y), (at_most-true x y, at_most-from x y))

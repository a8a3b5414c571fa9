use Rattle.std.proofs.Common.{inl, inr}
use Rattle.exact_time.specs.Time.{IsSame}
use Rattle.meaning.specs.Same.{IsRounded, IsSameOrRounded}
use Rattle.meaning.proofs.SameLemmas.{Same-wider}
use Rattle.meaning.proofs.laws.the_same_agrees.Goals as goal

pub returns-clause-exact : goal.returns-clause-exact
returns-clause-exact c unit a b = Same-wider IsSame (IsSameOrRounded unit) (λ x y same. inl same) a b

pub returns-clause-floor : goal.returns-clause-floor
returns-clause-floor c unit a b = Same-wider (IsRounded unit) (IsSameOrRounded unit) (λ x y same. inr same) a b

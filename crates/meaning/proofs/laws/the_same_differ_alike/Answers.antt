use Rattle.meaning.proofs.laws.the_same_differ_alike.Goals as goal
use Rattle.exact_time.specs.Time.{IsSame}
use Rattle.meaning.specs.Same.{IsSameTime}
use Rattle.meaning.proofs.{AlikeLemmas.first_alike, SameLemmas.Same-wider}

pub returns-clause-exact : goal.returns-clause-exact
returns-clause-exact c a b = Same-wider IsSameTime IsSame (λ x y same. same.1.1) a b

pub returns-clause-alike : goal.returns-clause-alike
returns-clause-alike c unit a b other = first_alike unit a b other

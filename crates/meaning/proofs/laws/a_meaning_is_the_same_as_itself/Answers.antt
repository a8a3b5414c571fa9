use Rattle.std.proofs.Common.{refl}
use Rattle.exact_time.specs.Time.{IsSame}
use Rattle.meaning.proofs.SameLemmas.{Same-self}
use Rattle.meaning.proofs.laws.a_meaning_is_the_same_as_itself.Goals as goal

pub returns : goal.returns
returns c a = Same-self IsSame (λ x. refl) a

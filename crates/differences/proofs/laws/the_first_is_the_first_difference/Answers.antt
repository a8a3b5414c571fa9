use Rattle.differences.proofs.First.{first_is}
use Rattle.differences.proofs.laws.the_first_is_the_first_difference.Goals as goal

pub returns : goal.returns
returns c unit a b mine theirs = first_is unit a b mine theirs

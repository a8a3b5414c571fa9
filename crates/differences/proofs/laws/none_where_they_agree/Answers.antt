use Rattle.differences.proofs.Agreeing.{Finds-all}
use Rattle.differences.proofs.laws.none_where_they_agree.Goals as goal

pub returns : goal.returns
returns c within unit a b mine theirs = Finds-all within unit a b mine theirs

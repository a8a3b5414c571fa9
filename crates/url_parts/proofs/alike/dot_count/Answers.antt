use Rattle.std.proofs.Common.{arith, rules}
use Rattle.std.proofs.lemmas.Grind.{common_steps}
use Rattle.url.specs.Path.{dot_count}
use Rattle.url_parts.proofs.alike.dot_count.Goals as goal

pub returns-then-first-eq0 : goal.returns-then-first-eq0
unfolding dot_count
returns-then-first-eq0 c = search rules

pub returns-then-is_empty : goal.returns-then-is_empty
unfolding dot_count
returns-then-is_empty c = search rules

pub returns-then-dot_len-rest : goal.returns-then-dot_len-rest
unfolding dot_count
returns-then-dot_len-rest c = search rules

pub returns-else-dot_len-rest : goal.returns-else-dot_len-rest
unfolding dot_count
returns-else-dot_len-rest c = grind (arith, common_steps)

use Rattle.text_lists.proofs.Numbers.{once_of}
use Rattle.text_lists.proofs.table.TextTable.as_slice.Goals as goal

pub returns-clause-once : goal.returns-clause-once
returns-clause-once c = rw c.as_slice.ensures.value (once_of c.args.self.now.numbered)

use Rattle.std.proofs.Common.{rules}
use Rattle.text_lists.proofs.Numbers.{numbered_next}
use Rattle.text_lists.proofs.table.TextTable.add.Goals as goal

pub invariant_of-self-in-Ok : goal.invariant_of-self-in-Ok
invariant_of-self-in-Ok c = record {
  numbered = rw c.in_ok-push.ensures.items
      (numbered_next c.args.self.now.numbers c.insert.new.self c.args.self.now.texts.items c.args.text c.len-number.result
      (search rules) c.args.self.now.numbered c.requires c.in-Ok.ensures.updates);
}

use Rattle.text_lists.proofs.Numbers.{marked_next}
use Rattle.text_lists.proofs.found.Found.add.Goals as goal

pub returns-clause-marked : goal.returns-clause-marked
returns-clause-marked c = rw c.in_ok-push.ensures.items
    (marked_next c.args.texts.now c.args.self.now.seen.items c.args.self.now.texts.items c.args.number _
    c.requires.below c.requires.once c.requires.marked)

use Rattle.std.proofs.Common.{option_map}
use Rattle.text_lists.specs.Lists.{parts_in}
use Rattle.text_lists.proofs.Numbers.{one_list_more}
use Rattle.text_lists.proofs.lists.TextLists.add.Goals as goal

pub returns : goal.returns
returns c = rw (c.in_ok-push.ensures.items, ← c.self.view_is)
    (one_list_more c.in_ok-numbers.ensures.grows (λ v. v.items) c.self.inside.lists.items c.self.invariant c.in_ok-numbers.numbers
    (parts_in (option_map (λ text. text.now) c.args.text)) c.in_ok-numbers.ensures.numbers)

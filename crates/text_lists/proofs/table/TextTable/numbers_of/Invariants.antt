use Rattle.text_lists.proofs.table.TextTable.numbers_of.Given as goal
use Rattle.std.proofs.Common.{◌≡◌}
use Rattle.text_lists.specs.{Lists.texts_of, Numbers.{Grows, AreBelow, texts_by}}

abbrev pub invariant-loop-part : goal.invariant-loop-part
invariant-loop-part l =
    (goal.iterator-loop-part).can_next l.part-iterator × (goal.iterator-loop-part).is_finite l.part-iterator
    × Grows (texts_of l.initial.self.texts.items) (texts_of l.self.texts.items)
    × (texts_by (texts_of l.self.texts.items) l.numbers.items ≡ texts_of l.yielded)
    × AreBelow (texts_of l.self.texts.items) l.numbers.items

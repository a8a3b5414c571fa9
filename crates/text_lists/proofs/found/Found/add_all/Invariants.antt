use Rattle.text_lists.proofs.found.Found.add_all.Given as goal
use Rattle.std.proofs.Common.{◌≡◌, drop}
use Rattle.text_lists.specs.{Lists.{texts_of, with_texts}, Numbers.{IsMarked, texts_by}}

abbrev pub invariant-loop-number : goal.invariant-loop-number
invariant-loop-number l =
    (with_texts (texts_of l.self.texts.items) (texts_by (texts_of l.texts) (drop l.number-index l.numbers))
    ≡ with_texts (texts_of l.initial.self.texts.items) (texts_by (texts_of l.texts) l.numbers))
    × IsMarked (texts_of l.texts) l.self.seen.items (texts_of l.self.texts.items)

use Rattle.text_lists.proofs.table.TextTable.numbers_of.Goals as goal
use Rattle.std.proofs.{Common.{◌≡◌, ◌<◌, ◌∙◌, ◌++◌, ◌∷◌, [], ap, lit<, sym, length}, lemmas.List.{map-append, length-map}}
use Rattle.std.proofs.{lemmas.List.Elements.All-push, lemmas.Iterator.Splits.YieldsList-from_str_split}
use Rattle.std.proofs.lemmas.Iterator.Consumers.{YieldsList-end}
use Rattle.text_lists.specs.{Lists.texts_of, Numbers.{text_by, texts_by}}
use Rattle.text_lists.proofs.Numbers.{grows_then, are_below_more, texts_by_more}

pub loop-part-preserved : goal.loop-part-preserved
loop-part-preserved c =
    let made = c.in_ok-number_of.ensures in
    let old = texts_of c.loop-part.self.texts.items in
    let new = texts_of c.number_of.new.self.texts.items in
    let so_far = c.loop-part.invariant in
    let number = c.in_ok-number_of.field-0 in
    let below : number < length new = rw (length-map c.number_of.new.self.texts.items (λ text. text.now)) made.below in
    let texts : texts_by new (c.loop-part.numbers.items ++ number ∷ []) ≡ texts_of (c.loop-part.yielded ++ c.in-Some.part ∷ []) =
    map-append (text_by new) c.loop-part.numbers.items (number ∷ [])
    ∙ ap (λ t. t ++ text_by new number ∷ []) (texts_by_more made.grows c.loop-part.numbers.items so_far.4 ∙ so_far.3)
    ∙ ap (λ t. texts_of c.loop-part.yielded ++ t ∷ []) made.number
    ∙ sym (map-append (λ text. text.now) c.loop-part.yielded (c.in-Some.part ∷ [])) in (
      tt,
      tt,
      grows_then so_far.2 made.grows,
      rw c.in_ok-push.ensures.items texts,
      rw c.in_ok-push.ensures.items (All-push (λ n. n < length new) c.loop-part.numbers.items number
          (are_below_more made.grows c.loop-part.numbers.items so_far.4) below),
    )

pub returns-clause-numbers : goal.returns-clause-numbers
returns-clause-numbers c =
    let split = c.split-part-items.ensures in
    let end = YieldsList-end (YieldsList-from_str_split 44 c.args.text.now (lit< tt) split.text split.has_more split.pattern)
    c.loop-part.yielded _ (rw c.into_iter-part-iterator.ensures.into_iter_gives at c.loop-part.yielded_by) _ _ c.in-None.is
    c.next.ensures.steps in
    c.loop-part.invariant.3 ∙ end.0

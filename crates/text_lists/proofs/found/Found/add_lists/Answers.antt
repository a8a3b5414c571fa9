use Rattle.text_lists.proofs.found.Found.add_lists.Goals as goal
use Rattle.std.proofs.Common.{◌∙◌, ap, map, get_or}
use Rattle.text_lists.specs.{Lists.{texts_of, with_texts}, Numbers.texts_by}
use Rattle.text_lists.proofs.Numbers.{list_by_numbers, numbers_below, merged_more}

pub add_all-requires-clause-below : goal.add_all-requires-clause-below
add_all-requires-clause-below c = rw c.numbers_at.ensures (numbers_below (λ v. v.items) (texts_of c.args.texts.now) c.args.lists.now
    (get_or c.args.places.now c.loop-place.place-index 0) c.requires.below)

pub loop-place-preserved : goal.loop-place-preserved
loop-place-preserved c =
    let texts = texts_of c.args.texts.now in
    let all = map (λ numbers. texts_by texts numbers.items) c.args.lists.now in
    let former = texts_of c.loop-place.self.texts.items in
    let place = get_or c.args.places.now c.loop-place.place-index 0 in (
      merged_more all former (texts_of c.add_all.new.self.texts.items) c.args.places.now c.loop-place.place-index c.loop-place-test.true
          (c.in_ok-add_all.ensures.found ∙ ap (λ numbers. with_texts former (texts_by texts numbers)) c.numbers_at.ensures
          ∙ ap (with_texts former) (list_by_numbers (λ v. v.items) texts c.args.lists.now place)) ∙ c.loop-place.invariant.0,
      c.in_ok-add_all.ensures.marked,
    )

use Rattle.text_lists.proofs.table.TextTable.number_of.Goals as goal
use Rattle.std.proofs.{Common.{[], sym}, lemmas.List.length-map, lemmas.Option.{slice_get_within, get_or_from_slice_get}}
use Rattle.text_lists.specs.Lists.{texts_of}

pub returns-in-Some-clause-below : goal.returns-in-Some-clause-below
returns-in-Some-clause-below c =
    let texts = texts_of c.args.self.now.texts.items in
    let here = c.args.self.now.numbered.at c.args.text.now c.in-Some.number.now (sym c.in-Some.ensures.value) in
    rw (length-map c.args.self.now.texts.items (λ text. text.now)) at (slice_get_within texts c.in-Some.number.now c.args.text.now here)

pub returns-in-Some-clause-number : goal.returns-in-Some-clause-number
returns-in-Some-clause-number c =
    let here = c.args.self.now.numbered.at c.args.text.now c.in-Some.number.now (sym c.in-Some.ensures.value) in
    get_or_from_slice_get (texts_of c.args.self.now.texts.items) c.in-Some.number.now c.args.text.now [] here

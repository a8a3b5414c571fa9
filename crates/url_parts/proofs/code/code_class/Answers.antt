use Rattle.url_parts.proofs.Codes.{is_audio, is_text, is_unknown, is_video}
use Rattle.url_parts.proofs.code.code_class.Goals as goal

pub returns-then-contains : goal.returns-then-contains
returns-then-contains c = is_video c.args.code.now _ c.name_of-name.ensures _ (c.contains.ensures.value, c.if-contains.true)

pub returns-then-contains-2 : goal.returns-then-contains-2
returns-then-contains-2 c =
    is_audio c.args.code.now _ c.name_of-name.ensures _ _ (c.contains.ensures.value, c.if-contains.false)
    (c.contains-else-contains.ensures.value, c.if-contains-2.true)

pub returns-then-contains-3 : goal.returns-then-contains-3
returns-then-contains-3 c =
    is_text c.args.code.now _ c.name_of-name.ensures _ _ (c.contains.ensures.value, c.if-contains.false) _
    (c.contains-else-contains.ensures.value, c.if-contains-2.false) (c.contains-else-contains-2.ensures.value, c.if-contains-3.true)

pub returns-else-contains-3 : goal.returns-else-contains-3
returns-else-contains-3 c =
    is_unknown c.args.code.now _ c.name_of-name.ensures _ _ (c.contains.ensures.value, c.if-contains.false) _
    (c.contains-else-contains.ensures.value, c.if-contains-2.false) (c.contains-else-contains-2.ensures.value, c.if-contains-3.false)

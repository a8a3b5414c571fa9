use Rattle.mpd_text.proofs.content.tag_of.Goals as goal
use Rattle.std.proofs.Common.{sym, subst}
use Rattle.mpd_text.specs.Rests.{IsEnd}
use Rattle.mpd_text.proofs.Rests.{Second, ends, ends_drop, tag_end_rest}

pub attributes_of-requires : goal.attributes_of-requires
attributes_of-requires c = subst (IsEnd _) (sym c.name_of.ensures.rest) (ends_drop _ _ _ (ends _ _ c.requires.rest))

pub returns-then-is_empty-clause-rest : goal.returns-then-is_empty-clause-rest
returns-then-is_empty-clause-rest c = subst (Second _) c.in_ok-is_empty.ensures (tag_end_rest _ _ c.in_ok-rest.ensures.rest)

pub returns-clause-rest : goal.returns-clause-rest
returns-clause-rest c = subst (Second _) c.in_ok-is_empty.ensures (tag_end_rest _ _ c.in_ok-rest.ensures.rest)

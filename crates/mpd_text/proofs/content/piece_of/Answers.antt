use Rattle.mpd_text.proofs.content.piece_of.Goals as goal
use Rattle.std.proofs.Common.{refl, subst}
use Rattle.mpd_text.specs.Rests.{IsBehind}
use Rattle.mpd_text.proofs.Rests.{Leaves, comment_rest, end_tag_rest, ends, ends_behind}

pub returns-in_ok-rest-in-47-clause-piece : goal.returns-in_ok-rest-in-47-clause-piece
returns-in_ok-rest-in-47-clause-piece c = record {
  kept = record { same = refl; shown_are = refl };
  left = subst (Leaves (IsBehind _)) c.in_ok-rest-in-47.ensures (end_tag_rest _ _ _ _ (ends_behind _ _ (ends _ _ c.requires.rest)));
}

pub returns-in_ok-rest-in-33-clause-piece : goal.returns-in_ok-rest-in-33-clause-piece
returns-in_ok-rest-in-33-clause-piece c = record {
  kept = record { same = refl; shown_are = refl };
  left = subst (Leaves (IsBehind _)) c.in_ok-rest-in-33.ensures (comment_rest _ _ _ (ends_behind _ _ (ends _ _ c.requires.rest)));
}

use Rattle.mpd_tree.proofs.escape.escaped.Goals as goal
use Rattle.std.proofs.{Common.{sym, ◌∙◌}, lemmas.List.{append_assoc, append-nil}}
use Rattle.std.specs.Str.Iter.{chars_rest}
use Rattle.mpd_tree.proofs.EscapeLemmas.{escape-append, nothing_left}

pub loop-character-preserved : goal.loop-character-preserved
loop-character-preserved c =
    rw (c.in_ok-push_escaped.ensures, append_assoc _ _ _, ← escape-append _ _, ← c.in-Some.ensures.steps.0) c.loop-character.invariant

pub returns : goal.returns
returns c = c.from.ensures ∙ sym (append-nil _)
    ∙ rw (nothing_left (chars_rest c.loop-character.character-iterator) c.in-None.ensures.steps.0.0) at c.loop-character.invariant

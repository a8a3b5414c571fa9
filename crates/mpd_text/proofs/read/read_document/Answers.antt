use Rattle.mpd_text.proofs.read.read_document.Goals as goal
use Rattle.std.proofs.Common.{subst}
use Rattle.mpd_text.specs.Rests.{IsEnd}
use Rattle.mpd_text.proofs.Rests.{Leaves, beginning_rest, ends_itself, misc_rest}

pub root_of-requires-clause-rest : goal.root_of-requires-clause-rest
root_of-requires-clause-rest c =
    let s = c.args.bytes.now in
    let b = subst (Leaves (IsEnd s)) c.in_ok-rest.ensures (beginning_rest s s (ends_itself s)) in
    rw c.requires.whole (subst (Leaves (IsEnd s)) c.in_ok-rest-2.ensures (misc_rest s c.in_ok-rest.rest.now b))

use Rattle.hls_follow.proofs.round.follow_round.Goals as goal
use Rattle.std.proofs.Common.{Ok, sym, ◌∙◌, ap}
use Rattle.hls_follow.proofs.Keeping.{moved_is}

pub returns-clause-sound : goal.returns-clause-sound
returns-clause-sound c =
    let placed = c.in_ok-placed in
    let same = c.in_ok-keep.ensures.followed ∙ moved_is placed.placed c.args.tracks.now c.args.medias c.requires.one_each in
    rw same (rw c.as_slice.ensures at placed.ensures.sound)

pub returns-clause-next : goal.returns-clause-next
returns-clause-next c =
    let placed = c.in_ok-placed in
    let same = c.in_ok-keep.ensures.followed ∙ moved_is placed.placed c.args.tracks.now c.args.medias c.requires.one_each in
    (rw c.as_slice.ensures at placed.ensures.next) ∙ ap Ok (sym same)

use Rattle.followed_text.proofs.followed.candidate_of.Goals as goal
use Rattle.followed_text.proofs.Writable.{all_writable}

pub followed_from-requires : goal.followed_from-requires
followed_from-requires c = rw c.in_ok-items.ensures (all_writable c.in-Some.digits c.as_slice.result.now c.as_slice-2.result.now
    (rw c.as_slice-2.ensures c.in_ok-dates.ensures.readable))

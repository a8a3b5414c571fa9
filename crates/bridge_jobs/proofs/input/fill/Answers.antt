use Rattle.std.proofs.Common.{◌-◌, length, arith}
use borrow.Rule.Slice.PartMut.{post_of}
use Rattle.bridge_jobs.proofs.Filling.{fill_more, within_more}
use Rattle.bridge_jobs.proofs.input.fill.Goals as goal

pub loop-filled-preserved : goal.loop-filled-preserved
loop-filled-preserved g c =
    let l = c.loop-filled in
    let part = c.read.new.buf in
    let more = post_of l.filled (length l.buf - l.filled) l.buf in
    let read = c.in_ok-n.ensures in
    record {
      within = within_more l.filled c.in_ok-n.n l.buf part more l.invariant.within read.bound;
      so_far = fill_more l.filled c.in_ok-n.n l.buf part more _ _ _ l.invariant.so_far l.invariant.within read.bound read.bytes.0;
      never_falls = omega (arith, l.invariant.never_falls, read.cause.never_falls);
    }

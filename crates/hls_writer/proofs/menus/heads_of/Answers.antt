use Rattle.hls_writer.proofs.menus.heads_of.Goals as goal
use Rattle.std.proofs.{Common.{◌≡◌, ◌+◌, ◌∷◌, drop, add-one}, Math.Seq.drop-cons}
use Rattle.hls_writer.proofs.menus.heads_of.Goals.{then-is_head+in_ok-push, else-is_head}

pub loop-place-preserved : goal.loop-place-preserved
loop-place-preserved c =
    let first = c.index-tracks-place.result in
    let cut : drop c.loop-place.place c.args.tracks.now ≡ first ∷ drop (c.loop-place.place + 1) c.args.tracks.now =
    rw (add-one, drop-cons c.args.tracks.now c.loop-place.place first c.loop-place-test.true, ← c.index-tracks-place.is) in
    elim c.if-is_head.branch [
      | then-is_head+in_ok-push w ↦ let more = rw (cut, ← c.is_head.ensures, w.if-is_head.true) at c.loop-place.invariant in
          cc (more, w.in_ok-push.ensures.items)
      | else-is_head w ↦ let more = rw (cut, ← c.is_head.ensures, w.if-is_head.false) at c.loop-place.invariant in cc (more)
    ]

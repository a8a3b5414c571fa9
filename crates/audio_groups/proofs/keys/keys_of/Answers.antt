use Rattle.audio_groups.proofs.keys.keys_of.Goals as goal
use Rattle.std.proofs.{Common.{◌≡◌, ◌+◌, ◌∷◌, drop, add-one}, Math.Seq.drop-cons}
use Rattle.audio_groups.proofs.keys.keys_of.Goals.{then-is_audio+in_ok-add_key, else-is_audio}

pub loop-place-preserved : goal.loop-place-preserved
loop-place-preserved c =
    let first = c.index-tracks-place.result in
    let cut : drop c.loop-place.place c.args.tracks.now ≡ first ∷ drop (c.loop-place.place + 1) c.args.tracks.now =
    rw (add-one, drop-cons c.args.tracks.now c.loop-place.place first c.loop-place-test.true, ← c.index-tracks-place.is) in
    elim c.if-is_audio.branch [
      | then-is_audio+in_ok-add_key w ↦ let more = rw (cut, ← c.is_audio.ensures, w.if-is_audio.true) at c.loop-place.invariant in
          cc (more, w.in_ok-add_key.ensures, w.key_at.ensures)
      | else-is_audio w ↦ let more = rw (cut, ← c.is_audio.ensures, w.if-is_audio.false) at c.loop-place.invariant in cc (more)
    ]

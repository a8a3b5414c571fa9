use Rattle.live_session.proofs.growth.make_room.Goals as goal
use Rattle.std.proofs.{Common.{◌≡◌, ◌∙◌, ap, sym, arith, Some, slice_get, length, rules, subst}, Math.Seq.map-set_same}
use Rattle.std.proofs.lemmas.Option.{same_Some, slice_get-get_or}
use Rattle.live_session.specs.{declared.made.MadeTrack.MadeTrack, Growth.inside_of, Kept.HasRoom}
use Rattle.live_session.proofs.Growing.{all_alike, changed_next, same_inside}

pub returns-in_err-reserve-clause-same : goal.returns-in_err-reserve-clause-same
returns-in_err-reserve-clause-same c = let l = c.loop-track in let old = c.index_mut.result.now in
    map-set_same inside_of l.tracks.items l.track c.reserve.new.track old
    (same_inside old c.reserve.new.track c.reserve.ensures.items c.reserve.ensures.facts c.reserve.ensures.others.0
    c.reserve.ensures.others.1 ∙ ap inside_of c.index_mut.ensures.value)
    ∙ all_alike l.invariant inside_of (λ i x y is. is.0)

pub loop-track-preserved : goal.loop-track-preserved
loop-track-preserved c = let l = c.loop-track in let old = c.index_mut.result.now in let made = c.args.made.now in
    let here = c.index-made-track.result in
    let at : slice_get made l.track ≡ Some here = slice_get-get_or made l.track here (omega arith) ∙ ap Some (sym c.index-made-track.is) in
    let same_len : c.len.result ≡ length here.segments.items = search rules in
    changed_next l.invariant old c.reserve.new.track (omega (arith, l.invariant.many)) c.index_mut.ensures.value (
      same_inside old c.reserve.new.track c.reserve.ensures.items c.reserve.ensures.facts c.reserve.ensures.others.0
          c.reserve.ensures.others.1,
      λ m is. subst (λ n. HasRoom n c.reserve.new.track)
          (same_len ∙ ap (λ (x : MadeTrack). length x.segments.items) (same_Some here m (sym at ∙ is))) c.in_ok-reserve.ensures.room,
    )

pub returns-clause-same : goal.returns-clause-same
returns-clause-same c = all_alike c.loop-track.invariant inside_of (λ i x y is. is.0)

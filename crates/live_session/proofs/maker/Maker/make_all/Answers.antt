use Rattle.live_session.proofs.maker.Maker.make_all.Goals as goal
use Rattle.std.{proofs.Common.{◌≡◌, ◌∙◌, Some, ap, arith, length, length-append, slice_get, sym}, proofs.lemmas.Option.slice_get-get_or}
use Rattle.std.proofs.lemmas.Result.{err_from_is_err_and}
use Rattle.live_session.{specs.declared.made.MadeTrack.MadeTrack, proofs.TrackMaking.{track_next, track_refused, tracks_made, wanting}}

pub make_track-requires-clause-kept : goal.make_track-requires-clause-kept
make_track-requires-clause-kept g c =
    let tracks = c.args.tracks.now in let t = c.loop-track.track in let track = c.index-tracks-track.result in
    let at : slice_get tracks t ≡ Some track = slice_get-get_or tracks t track (omega arith) ∙ ap Some (sym c.index-tracks-track.is) in
    c.requires.tracks t track at

pub returns-in-Err-clause-made : goal.returns-in-Err-clause-made
returns-in-Err-clause-made g c = λ common is. let l = c.loop-track in
    track_refused common c.args.tracks.now c.args.self.now is l.track c.index-tracks-track.result (omega arith) c.index-tracks-track.is
    (l.invariant.so_far common is) c.in-Err.ensures

pub returns-in_err-push-in-Ok-clause-made : goal.returns-in_err-push-in-Ok-clause-made
returns-in_err-push-in-Ok-clause-made g c = λ common is. let l = c.loop-track in
    let next = track_next common c.args.tracks.now c.args.self.now is l.track c.index-tracks-track.result
    (omega arith) c.index-tracks-track.is (record { segments = c.in-Ok.segments }) (l.invariant.so_far common is) c.in-Ok.ensures in
    let p = err_from_is_err_and c.from_residual.result c.from_residual.ensures.1 in
    rw (p.1, p.2) (wanting next.least (omega (arith, next.counted)))

pub loop-track-preserved : goal.loop-track-preserved
loop-track-preserved g c = let l = c.loop-track in record {
  count = omega (arith, l.invariant.count, ap (λ xs. length xs) c.in_ok-push-in-Ok.ensures.items, length-append {A = MadeTrack});
  so_far = λ common is. rw c.in_ok-push-in-Ok.ensures.items
      (track_next common c.args.tracks.now c.args.self.now is l.track c.index-tracks-track.result
      (omega arith) c.index-tracks-track.is (record { segments = c.in-Ok.segments }) (l.invariant.so_far common is) c.in-Ok.ensures);
}

pub returns-clause-made : goal.returns-clause-made
returns-clause-made g c = λ common is. tracks_made common c.args.tracks.now (omega arith) (c.loop-track.invariant.so_far common is)

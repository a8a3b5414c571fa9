use Rattle.bridge_steps.proofs.playlists.write_tracks.Goals as goal
use Rattle.std.proofs.Common.{◌<◌, ◌≤◌, length, ap, ◌∙◌, subst, arith}
use Rattle.bridge_io.specs.{Outside.Changes, InOrder.{put_all, put_next, begun_at}}
use Rattle.bridge_steps.specs.Playlists.{track_file, track_files}
use Rattle.bridge_steps.proofs.Files.{track_at, all_tracks, on_err}

pub returns-in_err-write_track-clause-err : goal.returns-in_err-write_track-clause-err
returns-in_err-write_track-clause-err g c =
    let ready = c.args.ready.now in let p = ready.presentation in let out = c.args.output.now in let l = c.loop-track in
    let files = g.F.Store.files in
    let within : l.track < length p.tracks = omega (arith, ap length c.tracks.ensures) in
    on_err c.from_residual.result
    (begun_at (track_files out ready.players ready.digits p) l.track (track_file out ready.players ready.digits p l.track)
    (files c.args.store.now) (files l.store)
    (files c.write_track.new.store)
    (track_at (track_file out ready.players ready.digits p) (length p.tracks) l.track within) l.invariant.put
    c.in_err-write_track.ensures.err)

pub loop-track-preserved : goal.loop-track-preserved
loop-track-preserved g c =
    let ready = c.args.ready.now in let p = ready.presentation in let out = c.args.output.now in let l = c.loop-track in
    let files = g.F.Store.files in
    let within : l.track < length p.tracks = omega (arith, ap length c.tracks.ensures) in
    record {
      put =
          put_next (track_files out ready.players ready.digits p) l.track (track_file out ready.players ready.digits p l.track)
          (files c.args.store.now)
          (files l.store) (files c.write_track.new.store)
          (track_at (track_file out ready.players ready.digits p) (length p.tracks) l.track within) l.invariant.put
          c.in_ok-write_track.ensures.ok;
      never_falls = omega (arith, l.invariant.never_falls, c.in_ok-write_track.ensures.cause.never_falls);
      reads = c.in_ok-write_track.ensures.reads ∙ l.invariant.reads;
    }

pub returns-clause-ok : goal.returns-clause-ok
returns-clause-ok g c =
    let ready = c.args.ready.now in let p = ready.presentation in let out = c.args.output.now in let l = c.loop-track in
    let past : length p.tracks ≤ l.track = omega (arith, ap length c.tracks.ensures) in
    subst (λ taken. Changes (put_all taken) (g.F.Store.files c.args.store.now) (g.F.Store.files l.store))
    (all_tracks (track_file out ready.players ready.digits p) (length p.tracks) l.track past) l.invariant.put

use Rattle.bridge_live.proofs.live_files.write_tracks.Goals as goal
use Rattle.std.proofs.Common.{◌<◌, ◌≤◌, length, ap, ◌∙◌, subst, arith}
use Rattle.bridge_io.specs.{Outside.Changes, InOrder.{put_all, put_next, begun_at}}
use Rattle.bridge_live.specs.LiveMpds.{track_file, track_files}
use Rattle.bridge_steps.proofs.Files.{track_at, all_tracks, on_err}

pub returns-in_err-write_track-clause-err : goal.returns-in_err-write_track-clause-err
returns-in_err-write_track-clause-err g c =
    let s = c.args.session.now in let out = c.args.output.now in let l = c.loop-track in let files = g.F.Store.files in
    let within : l.track < length s.tracks = omega (arith, ap length c.tracks.ensures, c.first.ensures.tracks) in
    on_err c.from_residual.result
    (begun_at (track_files out s) l.track (track_file out s l.track) (files c.args.store.now) (files l.store)
    (files c.write_track.new.store)
    (track_at (track_file out s) (length s.tracks) l.track within) l.invariant.put c.in_err-write_track.ensures.err)

pub loop-track-preserved : goal.loop-track-preserved
loop-track-preserved g c =
    let s = c.args.session.now in let out = c.args.output.now in let l = c.loop-track in let files = g.F.Store.files in
    let within : l.track < length s.tracks = omega (arith, ap length c.tracks.ensures, c.first.ensures.tracks) in
    record {
      put = put_next (track_files out s) l.track (track_file out s l.track) (files c.args.store.now) (files l.store)
          (files c.write_track.new.store) (track_at (track_file out s) (length s.tracks) l.track within) l.invariant.put
          c.in_ok-write_track.ensures.ok;
      never_falls = omega (arith, l.invariant.never_falls, c.in_ok-write_track.ensures.cause.never_falls);
      reads = c.in_ok-write_track.ensures.reads ∙ l.invariant.reads;
    }

pub returns-clause-ok : goal.returns-clause-ok
returns-clause-ok g c =
    let s = c.args.session.now in let out = c.args.output.now in let l = c.loop-track in
    let past : length s.tracks ≤ l.track = omega (arith, ap length c.tracks.ensures, c.first.ensures.tracks) in
    subst (λ taken. Changes (put_all taken) (g.F.Store.files c.args.store.now) (g.F.Store.files l.store))
    (all_tracks (track_file out s) (length s.tracks) l.track past) l.invariant.put

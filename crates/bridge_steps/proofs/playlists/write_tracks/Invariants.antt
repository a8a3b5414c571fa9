use Rattle.bridge_steps.proofs.playlists.write_tracks.Given as goal
use Rattle.std.proofs.Common.{◌≡◌, ◌≤◌, take}
use Rattle.bridge_io.specs.{Outside.Changes, InOrder.put_all}
use Rattle.bridge_steps.specs.Playlists.{track_files}

-- the playlists of the tracks before this one are put
abbrev pub invariant-loop-track : goal.invariant-loop-track
invariant-loop-track g l =
    let store = g.F.Store in
    record {
      put : Changes (put_all (take l.track (track_files l.output l.ready.players l.ready.digits l.ready.presentation)))
          (store.files l.fn.store)
          (store.files l.store);
      never_falls : store.write_faults l.fn.store ≤ store.write_faults l.store;
      reads : store.read_faults l.store ≡ store.read_faults l.fn.store;
    }

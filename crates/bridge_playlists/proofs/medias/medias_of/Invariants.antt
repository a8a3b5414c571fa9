use Rattle.std.proofs.Common.{◌≡◌, ◌≤◌, Some, drop}
use Rattle.bridge_io.specs.Outside.{Files}
use Rattle.bridge_playlists.specs.Playlists.{AreCounted, medias_of, none_read}
use Rattle.bridge_playlists.proofs.medias.medias_of.Given as goal

abbrev pub invariant-loop-track : goal.invariant-loop-track
invariant-loop-track g l =
    let store = g.F.Store in
    record {
      files : store.files l.store ≡ store.files l.fn.store;
      writes : store.write_faults l.store ≡ store.write_faults l.fn.store;
      never_falls : store.read_faults l.fn.store ≤ store.read_faults l.store;
      counted : AreCounted l.medias;
      read : (files : Files) → store.files l.fn.store ≡ Some files
          → medias_of l.place files l.medias (drop l.track-index l.tracks) ≡ medias_of l.place files none_read l.tracks;
    }

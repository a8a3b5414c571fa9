use Rattle.bridge_steps.proofs.playlists.write_track.Goals as goal

pub returns-clause-ok : goal.returns-clause-ok
returns-clause-ok g c =
    let file = c.in-Ok.ensures in rw (file.0, file.1, c.of.ensures, c.as_ref.ensures.value) at c.write_media.ensures.ok

pub returns-clause-err : goal.returns-clause-err
returns-clause-err g c =
    let file = c.in-Ok.ensures in rw (file.0, file.1, c.of.ensures, c.as_ref.ensures.value) at c.write_media.ensures.err

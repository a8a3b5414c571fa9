use Rattle.bridge_live.proofs.live_files.write_track.Goals as goal

pub returns-clause-ok : goal.returns-clause-ok
returns-clause-ok g c = let file = c.in-Ok.ensures in rw (file.0, file.1) at c.write.ensures.ok

pub returns-clause-err : goal.returns-clause-err
returns-clause-err g c = let file = c.in-Ok.ensures in rw (file.0, file.1) at c.write.ensures.err

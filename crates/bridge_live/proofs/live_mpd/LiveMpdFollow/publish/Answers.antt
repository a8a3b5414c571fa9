use Rattle.bridge_live.proofs.live_mpd.LiveMpdFollow.publish.Goals as goal

pub returns-in-Some-clause-ok : goal.returns-in-Some-clause-ok
returns-in-Some-clause-ok g c = rw c.in-Some.is (λ all is. rw c.output-output.ensures at c.write_live_files.ensures.ok)

pub returns-in-Some-clause-err : goal.returns-in-Some-clause-err
returns-in-Some-clause-err g c = rw c.in-Some.is (λ all is. rw c.output-output.ensures at c.write_live_files.ensures.err)

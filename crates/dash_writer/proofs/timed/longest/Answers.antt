use Rattle.dash_writer.proofs.timed.longest.Goals as goal

pub lasting-requires : goal.lasting-requires
lasting-requires c = rw c.run-item.is (c.requires.ends c.loop-run.run-index c.run-item.result c.loop-run-test.true)

use Rattle.bridge_ends.proofs.mem_sink.MemSinkSink.write.Goals as goal

pub returns-then-fails-clause-cause : goal.returns-then-fails-clause-cause
returns-then-fails-clause-cause c = record { never_falls = c.if-fails.ensures.never_falls; rose = λ _. c.if-fails.ensures.rose }

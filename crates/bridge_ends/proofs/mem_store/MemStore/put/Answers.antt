use Rattle.bridge_ends.proofs.mem_store.MemStore.put.Goals as goal

pub returns-clause-ok : goal.returns-clause-ok
returns-clause-ok c = rw (← c.as_str.ensures.text) c.set.ensures.ok

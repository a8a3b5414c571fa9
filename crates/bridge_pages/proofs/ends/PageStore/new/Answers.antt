use Rattle.bridge_pages.proofs.ends.PageStore.new.Goals as goal

pub returns : goal.returns
returns c = λ i name. c.new-3.ensures.empty name i

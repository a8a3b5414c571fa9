use Rattle.page_server.specs.Shelves.{on}
use Rattle.page_server.proofs.Shelved.{kept_more}
use Rattle.page_server.proofs.workshop.Workshop.keep.Goals as goal

pub invariant_of-self : goal.invariant_of-self
invariant_of-self g c = record {
  right = kept_more (g.M.Maker.holds c.args.self.now.maker) (on c.in-Some.kept.texts) (rw c.in-Some.is at c.args.self.now.right)
      (on c.put.new.self) c.args.file.now c.args.text c.put.result c.requires c.put.ensures.ok c.put.ensures.err;
}

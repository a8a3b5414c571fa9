use Rattle.page_server.specs.Shelves.{on}
use Rattle.page_server.proofs.Shelved.{kept_text}
use Rattle.page_server.proofs.workshop.Workshop.text.Goals as goal

pub returns-in-Some : goal.returns-in-Some
returns-in-Some g c = kept_text (g.M.Maker.holds c.args.self.now.maker) (on c.in-Some.kept.texts) (rw c.in-Some.is at c.args.self.now.right)
    c.args.file.now c.get.result c.get.ensures

use Rattle.std.proofs.Common.{sym}
use Rattle.page_server.proofs.SameFiles.{unlike}
use Rattle.page_server.proofs.sources.are_same.Goals as goal

pub returns-then-first-second : goal.returns-then-first-second
returns-then-first-second c = sym (unlike c.args.first.now c.args.second.now c.if-first-second.true)

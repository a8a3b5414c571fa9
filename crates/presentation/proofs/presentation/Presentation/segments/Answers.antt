use Rattle.std.proofs.Common.{◌^◌}
use Rattle.presentation.proofs.Printing.{printed_of}
use Rattle.presentation.proofs.presentation.Presentation.segments.Goals as goal

pub returns : goal.returns
returns c = printed_of c.args.self.now c.args.section c.args.track
    (10 ^ c.args.digits) c.content.result.now c.of.result c.content.ensures.content (rw c.window-window.ensures at c.of.ensures)

use Rattle.std.proofs.Common.{lit<}
use Rattle.mpd_presentation.proofs.told.short_of.Goals as goal

pub returns : goal.returns
returns c base is = rw (c.id.ensures, c.bandwidth.ensures) at
    (c.for_id.ensures base c.bandwidth.result 0 0 is c.bandwidth.type_inv (lit< tt) (lit< tt))

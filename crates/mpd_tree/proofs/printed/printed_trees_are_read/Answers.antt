use Rattle.mpd_tree.proofs.printed.printed_trees_are_read.Goals as goal
use Rattle.std.proofs.Common.{Ok, sym}
use Rattle.mpd_tree.specs.{Grammar.Spells, Markup.document, Placed.root_read}
use Rattle.mpd_tree.proofs.{Spelled.document_is, Cleaned.document_clean}

pub returns : goal.returns
returns c = λ tag children legal.
    let spelled : Spells (root_read tag children) (document tag children) =
    record { clean = document_clean tag children legal; document = document_is tag children legal } in
    sym ((c.one_reading.ensures (document tag children)).only (Ok (root_read tag children)) spelled)

use Rattle.mpd_text.proofs.kept.Kept.keep_text.Goals as goal
use Rattle.mpd_text.specs.Keeping.{attributes_in, shown_in}

pub returns-clause-adds : goal.returns-clause-adds
unfolding attributes_in shown_in
returns-clause-adds c =
    let adds = c.in_ok-span.ensures.adds in record { same = adds.same; shown_are = adds.shown_are; attributes_are = adds.attributes_are }

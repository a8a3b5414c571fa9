use Rattle.publish_core.proofs.first.are_all_ended.Goals as goal
use Rattle.std.proofs.{Common.{rules, tests}, lemmas.Iterator.YieldsList-from_slice, lemmas.Iterator.Search.all_from_yields_List}
use Rattle.publish_core.specs.declared.side.SideTrack.{SideTrack}

pub returns : goal.returns
returns c = all_from_yields_List (λ (track : SideTrack). track.list.head.ended) _ _ _ c.all.ensures.ran
    (YieldsList-from_slice c.args.tracks.now cc) (λ x b q k. search (rules, tests))

use Rattle.live_meaning.proofs.Accepted.{durations_fit_target, sections_have_one_map}
use Rattle.live_meaning.proofs.laws.sections_have_one_map.Goals as goal

pub returns : goal.returns
returns c = let differ = c.period_ids_differ.ensures in let its = c.presentations_show_their_mpd.ensures.sections in
    record { maps = sections_have_one_map differ its; durations = durations_fit_target differ its }

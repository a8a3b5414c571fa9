use Rattle.live_meaning.proofs.{Accepted.{accepted_are_listed_in_order, sections_never_fall}, Orders.sections_never_drift}
use Rattle.live_meaning.proofs.laws.accepted_never_drift.Goals as goal

pub returns : goal.returns
returns c = let differ = c.period_ids_differ.ensures in let its = c.presentations_show_their_mpd.ensures.sections in
    let order = accepted_are_listed_in_order differ its in
    let drift = sections_never_drift c.sums_are_floors.ensures.exact in record {
      order = order;
      sums = λ terms history accepted typed. drift terms history (order terms history accepted typed);
      sections = sections_never_fall differ its;
    }

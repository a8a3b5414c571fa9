use Rattle.std.proofs.Common.{ap}
use Rattle.exact_time.specs.{Time.Time, Time.at_most, Tick.time_of}
use Rattle.timeline.proofs.RunsLemmas.{seek_end_is}
use Rattle.timeline.proofs.runs.Runs.seek_end.Goals as goal

pub returns : goal.returns
returns c = λ window is_window is_reached. rw (c.at.ensures, c.place.ensures)
    (seek_end_is c.self.invariant c.self.view_is window is_window is_reached c.tick.result (time_of c.args.end)
    (λ end near. ap (λ (t : Time). at_most end t) c.tick.ensures))

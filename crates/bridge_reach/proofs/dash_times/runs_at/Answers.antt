use Rattle.bridge_reach.proofs.dash_times.runs_at.Goals as goal
use Rattle.presentation.proofs.Filling.{ok_under}
use Rattle.fragment_times.specs.Durations.{durations_of}
use Rattle.bridge_reach.specs.FileTimes.{named_by}
use Rattle.bridge_reach.proofs.Counted.{can_be_timed}

pub times_at-requires : goal.times_at-requires
times_at-requires g c = c.playlists_can_be_listed.ensures c.args.presentation.now c.requires

pub durations_at-requires-clause-listable : goal.durations_at-requires-clause-listable
durations_at-requires-clause-listable g c = c.playlists_can_be_listed.ensures c.args.presentation.now c.requires

pub returns-clause-can : goal.returns-clause-can
returns-clause-can g c =
    let p = c.args.presentation.now in let times = c.in_ok-times.times in let rows = c.in_ok-durations.durations in
    let is = ok_under (named_by c.args.place.now p) (durations_of c.args.form p times) rows c.in_ok-durations.ensures.durations in
    let made = can_be_timed c.args.form p times rows c.in_ok-times.ensures.filled c.requires c.in_ok-times.ensures.scaled is in
    rw (c.in_ok-runs_of.ensures, c.as_slice-starts.ensures, c.as_slice-ticks.ensures) made

use Rattle.std.proofs.lemmas.List.Elements.{All-rest}
use Rattle.fragment_times.specs.Origins.{IsUnit}
use Rattle.fragment_times.proofs.origin.count_of.Goals as goal

pub units_in-requires : goal.units_in-requires
units_in-requires c =
    let is = c.in-Some.ensures.cases.0 in
    let each = All-rest (IsUnit c.args.unit) c.in-Some.first.now c.in-Some.others.now c.args.tracks.now is c.requires in
    rw c.track-item.is (each c.loop-track.track-index c.track-item.result c.loop-track-test.true)

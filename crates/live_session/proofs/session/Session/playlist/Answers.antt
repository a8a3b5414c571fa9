use Rattle.live_session.proofs.session.Session.playlist.Goals as goal
use Rattle.std.proofs.{Common.{◌<◌, ap, arith, length}, lemmas.List.length-map}
use Rattle.live_meaning.specs.States.{State}
use Rattle.live_judge.specs.Shown.{track_shown}
use Rattle.live_session.proofs.Accepting.{written}

pub invariant_of-result : goal.invariant_of-result
invariant_of-result c =
    let tracks = c.self.inside.tracks.items in
    let within : c.args.track < length tracks = omega
    (arith, c.requires, ap (λ (x : State). length x.tracks) c.self.view_is, length-map tracks track_shown) in
    written tracks c.args.track c.index.result.now c.self.invariant.paired c.self.invariant.reached.dated within c.index.ensures

use Rattle.std.proofs.Common.{length}
use Rattle.bridge_reach.proofs.Rounding.{is_read, rounds_read}
use Rattle.bridge_reach.proofs.rounds.LiveHlsFollow.next.Goals as goal

pub returns-clause-frame : goal.returns-clause-frame
returns-clause-frame g c =
    rounds_read c.rounds_follow.ensures (length c.args.self.now.urls) c.args.at.now c.read_round.new.at c.read_round.result
    (g.I.Source.remaining c.args.input.now) (g.I.Source.remaining c.read_round.new.input) (rw c.len.ensures at c.read_round.ensures.round)
    (rw c.len.ensures at c.read_round.ensures.left)

pub returns-clause-read : goal.returns-clause-read
returns-clause-read g c =
    is_read c.args.self.now c.read_round.result c.read_round.ensures.readable (rw c.len.ensures at c.read_round.ensures.bodies)

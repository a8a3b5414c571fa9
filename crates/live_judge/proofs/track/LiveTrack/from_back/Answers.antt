use Rattle.std.proofs.Common.{sym, arith, rules}
use Rattle.live_judge.specs.Shown.{kept_of}
use Rattle.live_judge.proofs.Blocks.{from_back_at, from_back_past}
use Rattle.live_judge.proofs.track.LiveTrack.from_back.Goals as goal

pub returns-then-left-len : goal.returns-then-left-len
returns-then-left-len c =
    sym (from_back_at c.args.block c.args.self.now c.requires c.args.left (kept_of c.get.result.0.now c.get.result.1.now)
    (omega (arith, c.len.ensures)) (search rules))

pub returns-else-left-len : goal.returns-else-left-len
returns-else-left-len c = sym (from_back_past c.args.block c.args.self.now c.requires c.args.left (omega (arith, c.len.ensures)))

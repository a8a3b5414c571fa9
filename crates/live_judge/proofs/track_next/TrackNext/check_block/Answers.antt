use Rattle.std.proofs.Common.{refl}
use Rattle.live_judge.proofs.Rewriting.{told_in}
use Rattle.live_judge.proofs.track_next.TrackNext.check_block.Goals as goal

pub returns-in-Some : goal.returns-in-Some
returns-in-Some c =
    rw (
      told_in c.args.self.now c.requires.next c.args.section c.requires.section c.args.block c.rewritten.result c.requires.block
          c.rewritten.ensures,
      c.in-Some.is,
    ) (refl, refl)

pub returns-in-None : goal.returns-in-None
returns-in-None c =
    rw (
      told_in c.args.self.now c.requires.next c.args.section c.requires.section c.args.block c.rewritten.result c.requires.block
          c.rewritten.ensures,
      c.in-None.is,
    ) refl

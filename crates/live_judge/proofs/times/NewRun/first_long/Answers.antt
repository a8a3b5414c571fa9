use Rattle.live_judge.proofs.times.NewRun.first_long.Goals as goal
use Rattle.std.proofs.Common.{rules}
use Rattle.live_judge.proofs.Longs.{longest_long, no_long, second_long}

pub returns-then-not-is_long : goal.returns-then-not-is_long
returns-then-not-is_long c = λ ds is. no_long c.args.unit c.args.target c.requires ds c.args.self.now is (search rules) (search rules)

pub returns-then-is_long-2 : goal.returns-then-is_long-2
returns-then-is_long-2 c = λ ds is.
    second_long c.args.unit c.args.target c.requires ds c.args.self.now is (search rules) (search rules) (search rules)

pub returns : goal.returns
returns c = λ ds is.
    longest_long c.args.unit c.args.target c.requires ds c.args.self.now is (search rules) (search rules) (search rules)

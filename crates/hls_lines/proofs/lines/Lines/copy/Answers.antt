use Rattle.std.proofs.Common.{arith}
use Rattle.hls_lines.proofs.ScanLemmas.{few_lines}
use Rattle.hls_lines.proofs.lines.Lines.copy.Goals as goal

pub returns-clause-few : goal.returns-clause-few
returns-clause-few c = rw (← c.self.view_is) (omega (arith, few_lines c.self.inside.place c.self.inside.rest.now, c.self.invariant.few))

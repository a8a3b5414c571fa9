use Rattle.hls_lines.proofs.ScanLemmas.{first_cut, last_cut}
use Rattle.hls_lines.proofs.lines.first_line.Goals as goal

pub returns-in-Some-clause-lines : goal.returns-in-Some-clause-lines
returns-in-Some-clause-lines c = rw c.behind.ensures (first_cut c.args.place c.args.text.now _ _ c.in-Some.ensures)

pub returns-in-None-clause-lines : goal.returns-in-None-clause-lines
returns-in-None-clause-lines c = last_cut c.args.place c.args.text.now c.in-None.ensures

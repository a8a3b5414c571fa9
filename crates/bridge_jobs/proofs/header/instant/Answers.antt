use Rattle.std.proofs.Common.{sym}
use Rattle.bridge_jobs.proofs.Ascii.{no_instant}
use Rattle.bridge_jobs.proofs.header.instant.Goals as goal

pub returns-in_err-text-clause-instant : goal.returns-in_err-text-clause-instant
returns-in_err-text-clause-instant c = rw c.from_residual.ensures (sym (no_instant c.args.text.now c.in_err-text.ensures))

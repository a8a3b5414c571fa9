use Rattle.std.proofs.Common.{true, Some, subst}
use Rattle.bridge_report.specs.Outcomes.{Writes}
use Rattle.bridge_steps.specs.Endings.{IsWritten, JobEndsAs, around}
use Rattle.bridge_steps.proofs.Endings.{writes}
use Rattle.bridge_core.specs.Hls.{files_of, line_of, translated}
use Rattle.bridge_core.proofs.hls.write.Goals as goal

pub returns : goal.returns
returns g c =
    let translation = translated c.args.translation.now in let put = c.write_files.ensures in
    let ends : JobEndsAs (Some (Writes (files_of c.args.output.now translation) (line_of translation) true)) c.written.result
    (around g.F.Store c.args.store.now c.args.steps.now) (around g.F.Store c.write_files.new.store c.write_files.new.steps) =
    writes (files_of c.args.output.now translation) (line_of translation) true c.write_files.result c.written.result _ _
    put.ok put.err put.cause put.reads
    (subst (λ line. IsWritten line c.write_files.result c.written.result) c.in-Ok.ensures c.written.ensures) in
    rw c.requires at ends

use Rattle.std.proofs.Common.{false, ap, ◌∙◌, subst}
use Rattle.bridge_steps.specs.Endings.{IsWritten}
use Rattle.bridge_steps.proofs.Endings.{writes, written_never_reads}
use Rattle.bridge_core.specs.Make.{made_files, made_line}
use Rattle.bridge_core.proofs.make.write.Goals as goal

pub returns-clause-ends : goal.returns-clause-ends
returns-clause-ends g c =
    let ready = c.args.ready.now in let put = c.write_files.ensures in
    let line = c.in-Ok.ensures ∙ ap (λ digits. made_line digits ready.presentation) c.requires.digits in
    writes (made_files c.args.job.now ready.presentation) (made_line c.args.job.now.digits ready.presentation) false c.write_files.result
    c.written.result _ _
    put.ok put.err put.cause put.reads (subst (λ line. IsWritten line c.write_files.result c.written.result) line c.written.ensures)

pub returns-clause-never_reads : goal.returns-clause-never_reads
returns-clause-never_reads g c =
    written_never_reads c.in-Ok.line c.write_files.result c.written.result _ _ c.written.ensures c.write_files.ensures.reads

use Rattle.bridge_reach.proofs.index.write.Goals as goal
use Rattle.std.proofs.Common.{true, Some, subst}
use Rattle.bridge_report.specs.Outcomes.{Writes}
use Rattle.bridge_steps.specs.{Done.done_line, Endings.{IsWritten, JobEndsAs, around}, Playlists.playlists}
use Rattle.bridge_steps.proofs.Endings.{writes}

pub returns : goal.returns
returns g c =
    let ready = c.args.ready.now in let p = ready.presentation in let put = c.write_playlists.ensures in
    let ends : JobEndsAs (Some (Writes (playlists c.args.output.now ready.players ready.digits p) (done_line p) true)) c.written.result
    (around g.F.Store c.args.store.now c.args.steps.now)
    (around g.F.Store c.write_playlists.new.store c.write_playlists.new.steps) =
    writes (playlists c.args.output.now ready.players ready.digits p) (done_line p) true c.write_playlists.result c.written.result _ _
    put.ok put.err put.cause put.reads
    (subst (λ line. IsWritten line c.write_playlists.result c.written.result) c.in-Ok.ensures c.written.ensures) in
    rw (c.requires.output, c.requires.digits) at ends

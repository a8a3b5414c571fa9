use Rattle.bridge_report.specs.Reading.{content_of}
use Rattle.publish_core.proofs.Halted.{is_halted, is_read}
use Rattle.publish_core.proofs.side.bytes_of.Goals as goal

pub returns-in-Ok : goal.returns-in-Ok
returns-in-Ok g c = is_read g.F.Store c.args.store.now c.content_of.new.store (λ bytes. bytes) (content_of c.args.name.now)
    c.in-Ok.bytes c.in-Ok.ensures

pub returns-in-Err : goal.returns-in-Err
returns-in-Err g c = rw c.from.ensures (is_halted g.F.Store c.args.store.now c.content_of.new.store (λ bytes. bytes)
    (content_of c.args.name.now) c.in-Err.halt c.in-Err.ensures)

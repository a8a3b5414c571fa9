use Rattle.hls_writer.proofs.entry.Entry.push_front.Goals as goal
use Rattle.bridge_io.proofs.Adding.{adds_same, adds_then, adds_stop_at}
use Rattle.hls_writer.specs.Rows.{entry_item}
use Rattle.hls_writer.proofs.Present.{front_text}

pub returns-in_err-push_map : goal.returns-in_err-push_map
returns-in_err-push_map g c = adds_same (front_text c.args.former (entry_item c.args.self.now))
    (adds_stop_at _ c.from_residual.result c.from_residual.ensures.1 c.in_err-push_map.ensures)

pub returns : goal.returns
returns g c = adds_same (front_text c.args.former (entry_item c.args.self.now))
    (adds_then _ c.in_ok-push_map.ensures c.push_date.ensures)

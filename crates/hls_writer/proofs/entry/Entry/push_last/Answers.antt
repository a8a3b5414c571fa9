use Rattle.hls_writer.proofs.entry.Entry.push_last.Goals as goal
use Rattle.std.proofs.Common.{option_map, option_to_list}
use Rattle.bridge_io.proofs.Adding.{adds_same, adds_then, adds_stop, adds_stop_at}
use Rattle.hls_writer.specs.{Lines.{lines_text, byte_range}, Rows.entry_item}
use Rattle.hls_writer.proofs.Present.{last_text}

pub returns-in_err-push_duration : goal.returns-in_err-push_duration
returns-in_err-push_duration g c = let range = option_to_list (option_map byte_range c.args.self.now.range) in
    adds_same (last_text c.args.digits (entry_item c.args.self.now))
    (adds_stop_at _ c.from_residual.result c.from_residual.ensures.1
    (adds_stop {T = Unit {0}} (lines_text range) c.in_err-push_duration.ensures))

pub returns-in_err-push_range : goal.returns-in_err-push_range
returns-in_err-push_range g c =
    adds_same (last_text c.args.digits (entry_item c.args.self.now))
    (adds_stop_at _ c.from_residual-in_err-push_range.result c.from_residual-in_err-push_range.ensures.1
    (adds_then _ c.in_ok-push_duration.ensures c.in_err-push_range.ensures))

pub returns : goal.returns
returns g c = adds_same (last_text c.args.digits (entry_item c.args.self.now))
    (adds_then _ (adds_then _ c.in_ok-push_duration.ensures c.in_ok-push_range.ensures) c.push_uri.ensures)

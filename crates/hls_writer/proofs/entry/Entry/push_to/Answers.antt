use Rattle.hls_writer.proofs.entry.Entry.push_to.Goals as goal
use Rattle.std.proofs.Common.{ap, replicate}
use Rattle.bridge_io.proofs.Adding.{adds_same, adds_then, adds_stop, adds_stop_at}
use Rattle.hls_writer.specs.{Lines.{lines_text, discontinuity}, Playlists.front_lines, Rows.entry_item}
use Rattle.hls_writer.proofs.Present.{item_text}

pub returns-in_err-push_discontinuities : goal.returns-in_err-push_discontinuities
returns-in_err-push_discontinuities g c = let item = entry_item c.args.self.now in
    let steps = adds_same (ap (λ n. lines_text (replicate n discontinuity)) c.rise.ensures) c.in_err-push_discontinuities.ensures in
    adds_same (item_text c.args.digits c.args.former item) (adds_stop_at _ c.from_residual.result c.from_residual.ensures.1
    (adds_stop {T = Unit {0}} (lines_text (front_lines c.args.former item)) steps))

pub returns-in_err-push_front : goal.returns-in_err-push_front
returns-in_err-push_front g c =
    let steps = adds_same (ap (λ n. lines_text (replicate n discontinuity)) c.rise.ensures) c.in_ok-push_discontinuities.ensures in
    adds_same (item_text c.args.digits c.args.former (entry_item c.args.self.now))
    (adds_stop_at _ c.from_residual-in_err-push_front.result c.from_residual-in_err-push_front.ensures.1
    (adds_then _ steps c.in_err-push_front.ensures))

pub returns : goal.returns
returns g c =
    let steps = adds_same (ap (λ n. lines_text (replicate n discontinuity)) c.rise.ensures) c.in_ok-push_discontinuities.ensures in
    adds_same (item_text c.args.digits c.args.former (entry_item c.args.self.now))
    (adds_then _ (adds_then _ steps c.in_ok-push_front.ensures) c.push_last.ensures)

use Rattle.hls_writer.proofs.finished.push_playlist.Goals as goal
use Rattle.std.proofs.Common.{◌^◌, None, ap, true}
use Rattle.hls_writer.specs.{Finished.track_items, Lines.{lines_text, on_demand}, Playlists.{finished_text, head_lines, items_lines}}
use Rattle.hls_writer.specs.{Playlists.end_lines, Spelled.spelled_items}
use Rattle.bridge_io.proofs.Adding.{adds_same, adds_then, adds_stop, adds_stop_at}
use Rattle.hls_writer.proofs.Following.{media_text}

pub returns-in_err-push_lines : goal.returns-in_err-push_lines
unfolding finished_text
returns-in_err-push_lines g c =
    let t = c.args.track.now in let items = items_lines t.digits None (spelled_items t.spelling.now
    (track_items t.presentation.now (10 ^ t.digits) t.track)) in
    adds_same (media_text (head_lines c.args.target 0 on_demand) items (end_lines true))
    (adds_stop_at _ c.from_residual.result c.from_residual.ensures.1
    (adds_stop {T = Unit {0}} (lines_text items) (adds_same (ap lines_text c.head_lines.ensures.written) c.in_err-push_lines.ensures)))

pub returns-in_err-push_sections : goal.returns-in_err-push_sections
unfolding finished_text
returns-in_err-push_sections g c =
    let t = c.args.track.now in let items = items_lines t.digits None (spelled_items t.spelling.now
    (track_items t.presentation.now (10 ^ t.digits) t.track)) in
    adds_same (media_text (head_lines c.args.target 0 on_demand) items (end_lines true))
    (adds_stop_at _ c.from_residual-in_err-push_sections.result c.from_residual-in_err-push_sections.ensures.1
    (adds_then (lines_text items) (adds_same (ap lines_text c.head_lines.ensures.written) c.in_ok-push_lines.ensures)
    c.in_err-push_sections.ensures))

pub returns : goal.returns
unfolding finished_text
returns g c =
    let t = c.args.track.now in let items = items_lines t.digits None (spelled_items t.spelling.now
    (track_items t.presentation.now (10 ^ t.digits) t.track)) in
    adds_same (media_text (head_lines c.args.target 0 on_demand) items (end_lines true))
    (adds_then (lines_text (end_lines true))
    (adds_then (lines_text items) (adds_same (ap lines_text c.head_lines.ensures.written) c.in_ok-push_lines.ensures)
    c.in_ok-push_sections.ensures)
    c.push_lines-2.ensures)

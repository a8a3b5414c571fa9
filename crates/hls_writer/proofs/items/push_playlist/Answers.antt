use Rattle.hls_writer.proofs.items.push_playlist.Goals as goal
use Rattle.std.proofs.Common.{◌++◌, map, None, ap}
use Rattle.hls_writer.specs.{Items.item_of, Lines.{lines_text, discontinuity_sequence}, Playlists.{followed_text, head_lines, items_lines}}
use Rattle.hls_writer.specs.Spelled.{spelled_items}
use Rattle.hls_writer.specs.Playlists.{end_lines}
use Rattle.bridge_io.proofs.Adding.{adds_same, adds_then, adds_stop, adds_stop_at}
use Rattle.hls_writer.proofs.Following.{media_text, end_text}

pub returns-in_err-push_lines : goal.returns-in_err-push_lines
unfolding followed_text
returns-in_err-push_lines g c =
    let head = c.args.head.now in
    let items = items_lines head.digits None (spelled_items c.args.spelling.now (map item_of (c.args.front.now ++ c.args.back.now))) in
    adds_same (media_text (head_lines head.target head.sequence (discontinuity_sequence head.first_section)) items (end_lines head.ended))
    (adds_stop_at _ c.from_residual.result c.from_residual.ensures.1
    (adds_stop {T = Unit {0}} (lines_text items) (adds_same (ap lines_text c.lines.ensures.written) c.in_err-push_lines.ensures)))

pub returns-in_err-push_slices : goal.returns-in_err-push_slices
unfolding followed_text
returns-in_err-push_slices g c =
    let head = c.args.head.now in
    let items = items_lines head.digits None (spelled_items c.args.spelling.now (map item_of (c.args.front.now ++ c.args.back.now))) in
    adds_same (media_text (head_lines head.target head.sequence (discontinuity_sequence head.first_section)) items (end_lines head.ended))
    (adds_stop_at _ c.from_residual-in_err-push_slices.result c.from_residual-in_err-push_slices.ensures.1
    (adds_then (lines_text items)
    (adds_same (ap lines_text c.lines.ensures.written) c.in_ok-push_lines.ensures) c.in_err-push_slices.ensures))

pub returns : goal.returns
unfolding followed_text
returns g c =
    let head = c.args.head.now in
    let items = items_lines head.digits None (spelled_items c.args.spelling.now (map item_of (c.args.front.now ++ c.args.back.now))) in
    adds_same (media_text (head_lines head.target head.sequence (discontinuity_sequence head.first_section)) items (end_lines head.ended))
    (adds_then (lines_text (end_lines head.ended)) (adds_then (lines_text items)
    (adds_same (ap lines_text c.lines.ensures.written) c.in_ok-push_lines.ensures) c.in_ok-push_slices.ensures)
    (adds_same (end_text head.ended c.then_some-end.result c.then_some-end.ensures) c.push_lines-2.ensures))

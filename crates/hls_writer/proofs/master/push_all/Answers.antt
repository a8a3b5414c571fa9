use Rattle.hls_writer.proofs.master.push_all.Goals as goal
use Rattle.std.proofs.Common.{map, flat_map}
use Rattle.hls_writer.specs.{LaidOut.laid, Lines.lines_text, Master.head_lines, Menus.hints_in}
use Rattle.hls_writer.specs.{Renditions.{renditions_of, rendition_line}, Variants.{variants_of, variant_lines}}
use Rattle.bridge_io.proofs.Adding.{adds_same, adds_then, adds_stop, adds_stop_at}
use Rattle.hls_writer.proofs.Listing.{three_parts}

pub returns-in_err-push_lines : goal.returns-in_err-push_lines
returns-in_err-push_lines g c =
    let l = laid c.args.layout.now in
    let renditions = map (rendition_line l.tracks (hints_in l.players)) (renditions_of l) in
    let variants = flat_map (variant_lines l.players l.tracks l.members l.texts) (variants_of l.players l.tracks l.members) in
    adds_same (three_parts (head_lines l.players) renditions variants)
    (adds_stop_at (lines_text variants) c.from_residual.result c.from_residual.ensures.1
    (adds_stop {T = Unit {0}} (lines_text renditions) (rw c.head_lines.ensures.written at c.in_err-push_lines.ensures)))

pub returns-in_err-push_renditions : goal.returns-in_err-push_renditions
returns-in_err-push_renditions g c =
    let l = laid c.args.layout.now in
    let renditions = map (rendition_line l.tracks (hints_in l.players)) (renditions_of l) in
    let variants = flat_map (variant_lines l.players l.tracks l.members l.texts) (variants_of l.players l.tracks l.members) in
    adds_same (three_parts (head_lines l.players) renditions variants)
    (adds_stop_at (lines_text variants) c.from_residual-in_err-push_renditions.result c.from_residual-in_err-push_renditions.ensures.1
    (adds_then (lines_text renditions) (rw c.head_lines.ensures.written at c.in_ok-push_lines.ensures) c.in_err-push_renditions.ensures))

pub returns : goal.returns
returns g c =
    let l = laid c.args.layout.now in
    let renditions = map (rendition_line l.tracks (hints_in l.players)) (renditions_of l) in
    let variants = flat_map (variant_lines l.players l.tracks l.members l.texts) (variants_of l.players l.tracks l.members) in
    adds_same (three_parts (head_lines l.players) renditions variants)
    (adds_then (lines_text variants)
    (adds_then (lines_text renditions) (rw c.head_lines.ensures.written at c.in_ok-push_lines.ensures) c.in_ok-push_renditions.ensures)
    c.push_variants.ensures)

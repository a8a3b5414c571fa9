use Rattle.std.proofs.Common.{refl, ap, ◌∙◌, flat_map}
use Rattle.hls_writer.specs.{LaidOut.laid, Menus.hints_in, Renditions.{renditions_of, rendition_line, rendition_text}}
use Rattle.bridge_io.proofs.Adding.{adds_none, adds_same, adds_wanting}
use Rattle.hls_writer.proofs.Listing.{text_of_each}
use Rattle.hls_writer.proofs.master.push_renditions.Goals as goal

pub returns-in_err-renditions : goal.returns-in_err-renditions
returns-in_err-renditions g c = adds_wanting _ _ c.from_residual.result refl c.from_residual.ensures.1 (adds_none _)

pub returns : goal.returns
returns g c =
    let l = laid c.args.layout.now in
    adds_same (ap (flat_map (rendition_text l.tracks (hints_in l.players))) c.in_ok-renditions.ensures
    ∙ text_of_each (rendition_line l.tracks (hints_in l.players)) (renditions_of l))
    (rw (c.deref.ensures.value, c.hints_in.ensures) at c.push_rendition_lines.ensures)

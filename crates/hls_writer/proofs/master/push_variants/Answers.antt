use Rattle.std.proofs.Common.{refl, ap, ◌∙◌, flat_map}
use Rattle.hls_writer.specs.{LaidOut.laid, Variants.{variants_of, variant_lines, variant_text}}
use Rattle.bridge_io.proofs.Adding.{adds_none, adds_same, adds_wanting}
use Rattle.hls_writer.proofs.Listing.{text_of_all}
use Rattle.hls_writer.proofs.master.push_variants.Goals as goal

pub returns-in_err-variants : goal.returns-in_err-variants
returns-in_err-variants g c = adds_wanting _ _ c.from_residual.result refl c.from_residual.ensures.1 (adds_none _)

pub returns : goal.returns
returns g c =
    let l = laid c.args.layout.now in
    adds_same (ap (flat_map (variant_text l.players l.tracks l.members l.texts)) c.in_ok-variants.ensures
    ∙ text_of_all (variant_lines l.players l.tracks l.members l.texts) (variants_of l.players l.tracks l.members))
    (rw c.deref.ensures.value at c.push_told.ensures)

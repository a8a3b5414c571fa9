use Rattle.std.proofs.Common.{refl, flat_map}
use Rattle.hls_writer.specs.{LaidOut.laid, Variants.variant_text}
use Rattle.bridge_io.proofs.Adding.{adds_none, adds_wanting}
use Rattle.hls_writer.proofs.master.push_told.Goals as goal

pub returns-in_err-codes : goal.returns-in_err-codes
returns-in_err-codes g c =
    let l = laid c.args.layout.now in
    let text = flat_map (variant_text l.players l.tracks l.members l.texts) c.args.variants.now in
    adds_wanting text text c.from_residual.result refl c.from_residual.ensures.1 (adds_none _)

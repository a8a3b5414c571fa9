use Rattle.std.proofs.Common.{refl}
use Rattle.hls_writer.specs.LaidOut.{cast_text}
use Rattle.bridge_io.proofs.Adding.{adds_none, adds_wanting}
use Rattle.hls_writer.proofs.master.push_variant.Goals as goal

pub returns-in_err-codes : goal.returns-in_err-codes
returns-in_err-codes g c =
    let text = cast_text c.args.cast.now c.args.variant in
    adds_wanting text text c.from_residual.result refl c.from_residual.ensures.1 (adds_none _)

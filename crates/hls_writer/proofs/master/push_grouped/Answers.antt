use Rattle.std.proofs.Common.{refl}
use Rattle.bridge_io.proofs.Adding.{adds_none, adds_wanting}
use Rattle.hls_writer.proofs.master.push_grouped.Goals as goal

pub returns-in_err-parts : goal.returns-in_err-parts
returns-in_err-parts g c = adds_wanting _ _ c.from_residual.result refl c.from_residual.ensures.1 (adds_none _)

use Rattle.std.proofs.lemmas.List.{take_all}
use Rattle.hls_writer.specs.LaidOut.{cast_text}
use Rattle.bridge_io.proofs.Adding.{adds_none, adds_more, adds_until}
use Rattle.hls_writer.proofs.master.push_variant_lines.Goals as goal

pub loop-variant-init : goal.loop-variant-init
loop-variant-init g c = adds_none _

pub loop-variant-preserved : goal.loop-variant-preserved
loop-variant-preserved g c = adds_more (cast_text c.args.cast.now) c.args.variants.now c.loop-variant.variant-index _
    c.loop-variant-test.true c.loop-variant.invariant c.in_ok-push_variant.ensures

pub returns-in_err-push_variant : goal.returns-in_err-push_variant
returns-in_err-push_variant g c = adds_until (cast_text c.args.cast.now) c.args.variants.now c.loop-variant.variant-index _
    c.loop-variant-test.true c.loop-variant.invariant c.from_residual.result c.from_residual.ensures.1 c.in_err-push_variant.ensures

pub returns : goal.returns
returns g c = rw (take_all c.loop-variant.variant-index c.args.variants.now c.loop-variant-test.false) at c.loop-variant.invariant

use Rattle.std.proofs.lemmas.List.{take_all}
use Rattle.hls_writer.specs.Renditions.{rendition_text}
use Rattle.bridge_io.proofs.Adding.{adds_none, adds_more, adds_until}
use Rattle.hls_writer.proofs.master.push_rendition_lines.Goals as goal

pub loop-rendition-init : goal.loop-rendition-init
loop-rendition-init g c = adds_none _

pub loop-rendition-preserved : goal.loop-rendition-preserved
loop-rendition-preserved g c = adds_more (rendition_text c.args.tracks.now c.args.hints.now) c.args.renditions.now
    c.loop-rendition.rendition-index _ c.loop-rendition-test.true c.loop-rendition.invariant c.in_ok-push_rendition.ensures

pub returns-in_err-push_rendition : goal.returns-in_err-push_rendition
returns-in_err-push_rendition g c = adds_until (rendition_text c.args.tracks.now c.args.hints.now) c.args.renditions.now
    c.loop-rendition.rendition-index _ c.loop-rendition-test.true c.loop-rendition.invariant c.from_residual.result
    c.from_residual.ensures.1 c.in_err-push_rendition.ensures

pub returns : goal.returns
returns g c = rw (take_all c.loop-rendition.rendition-index c.args.renditions.now c.loop-rendition-test.false) at c.loop-rendition.invariant

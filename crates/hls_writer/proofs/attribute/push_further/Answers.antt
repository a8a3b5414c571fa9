use Rattle.std.proofs.lemmas.List.{take_all}
use Rattle.bridge_io.proofs.Adding.{adds_none, adds_same, adds_more, adds_until}
use Rattle.hls_writer.proofs.Listing.{there_bytes, further_all_told, there_bytes-some, there_bytes-none}
use Rattle.hls_writer.proofs.attribute.push_further.Goals as goal
use Rattle.hls_writer.proofs.attribute.push_further.Goals.{in-Some+in_ok-push_one_further, in_default}

pub loop-attribute-init : goal.loop-attribute-init
loop-attribute-init g c = adds_none _

pub loop-attribute-preserved : goal.loop-attribute-preserved
loop-attribute-preserved g c =
    let attributes = c.args.attributes.now in
    let i = c.loop-attribute.attribute-index in
    elim c.match-attribute.branch [
      | in-Some+in_ok-push_one_further w ↦ rw w.sheet-is
          (adds_more there_bytes attributes i _ c.loop-attribute-test.true c.loop-attribute.invariant
          (adds_same (there_bytes-some attributes i _ w.in-Some.attribute w.in-Some.is) w.in_ok-push_one_further.ensures))
      | in_default w ↦ rw w.sheet-is
          (adds_more there_bytes attributes i _ c.loop-attribute-test.true c.loop-attribute.invariant
          (adds_same (there_bytes-none attributes i _ w.in_default.is) (adds_none _)))
    ]

pub returns-in_err-push_one_further : goal.returns-in_err-push_one_further
returns-in_err-push_one_further g c =
    let attributes = c.args.attributes.now in
    let i = c.loop-attribute.attribute-index in
    rw further_all_told (adds_until there_bytes attributes i _ c.loop-attribute-test.true c.loop-attribute.invariant c.from_residual.result
    c.from_residual.ensures.1
    (adds_same (there_bytes-some attributes i _ c.in-Some.attribute c.in-Some.is) c.in_err-push_one_further.ensures))

pub returns : goal.returns
returns g c = rw (further_all_told, ← take_all c.loop-attribute.attribute-index c.args.attributes.now c.loop-attribute-test.false)
    c.loop-attribute.invariant

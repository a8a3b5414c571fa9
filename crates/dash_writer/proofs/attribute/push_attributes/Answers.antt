use Rattle.dash_writer.proofs.attribute.push_attributes.Goals as goal
use Rattle.std.proofs.{Common.{◌∙◌, ap, flat_map}, lemmas.List.take_all}
use Rattle.bridge_io.proofs.Adding.{adds_more, adds_none, adds_same, adds_until}
use Rattle.dash_writer.specs.Written.{known_text, told}
use Rattle.dash_writer.proofs.Nodes.{each_attribute}

pub loop-attribute-init : goal.loop-attribute-init
loop-attribute-init g c = adds_none _

pub loop-attribute-preserved : goal.loop-attribute-preserved
loop-attribute-preserved g c = let l = c.loop-attribute in
    adds_more (λ a. known_text (told a)) c.args.attributes.now l.attribute-index c.attribute-item.result c.loop-attribute-test.true
    l.invariant (adds_same (ap (λ a. known_text (told a)) c.attribute-item.is) c.in_ok-push_attribute.ensures)

pub returns-in_err-push_attribute : goal.returns-in_err-push_attribute
returns-in_err-push_attribute g c = let l = c.loop-attribute in
    adds_same (each_attribute c.args.attributes.now)
    (adds_until (λ a. known_text (told a)) c.args.attributes.now l.attribute-index c.attribute-item.result c.loop-attribute-test.true
    l.invariant c.from_residual.result c.from_residual.ensures.1
    (adds_same (ap (λ a. known_text (told a)) c.attribute-item.is) c.in_err-push_attribute.ensures))

pub returns : goal.returns
returns g c = let l = c.loop-attribute in
    adds_same (ap (flat_map (λ a. known_text (told a))) (take_all l.attribute-index c.args.attributes.now c.loop-attribute-test.false)
    ∙ each_attribute c.args.attributes.now) l.invariant

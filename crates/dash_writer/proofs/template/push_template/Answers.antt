use Rattle.dash_writer.proofs.template.push_template.Goals as goal
use Rattle.std.proofs.Common.{[], ◌∷◌, codes, refl, true}
use Rattle.std.specs.Prelude.{string_bytes}
use Rattle.bridge_io.proofs.Adding.{adds_same}
use Rattle.segment_forms.specs.Media.{doubled}
use Rattle.dash_writer.specs.{Forms.template_attributes, Lists.timeline_with}
use Rattle.dash_writer.proofs.Nodes.{adds_node, one_element, stops_at_children, stops_at_start}
use Rattle.dash_writer.proofs.Progress.{nothing_yet, wants}

pub returns-in_err-push_literal : goal.returns-in_err-push_literal
returns-in_err-push_literal g c = wants (nothing_yet _ _) c.from_residual.result c.from_residual.ensures.1

pub returns-in_err-push_start : goal.returns-in_err-push_start
returns-in_err-push_start g c = let head = c.args.head.now in let template = c.args.template.now in
    stops_at_start (codes "SegmentTemplate") (template_attributes head.ticks head.offset (doubled head.initialization.now.address)
    (string_bytes template.media) template.number)
    (timeline_with true head.first (g.D.Durations.durations c.args.durations.now) ∷ []) refl
    c.from_residual-in_err-push_start.result c.from_residual-in_err-push_start.ensures.1
    (rw (
      c.template_attributes-attributes.ensures,
      c.as_str-2.ensures.value,
      c.in_ok-push_literal.ensures,
      c.new-initialization.ensures.bytes,
      c.as_str.ensures.text,
    ) at c.in_err-push_start.ensures)

pub returns-in_err-push_timeline : goal.returns-in_err-push_timeline
returns-in_err-push_timeline g c = let head = c.args.head.now in let template = c.args.template.now in
    let timeline = timeline_with true head.first (g.D.Durations.durations c.args.durations.now) in
    stops_at_children (codes "SegmentTemplate") (template_attributes head.ticks head.offset (doubled head.initialization.now.address)
    (string_bytes template.media) template.number) (timeline ∷ []) refl
    (rw (
      c.template_attributes-attributes.ensures,
      c.as_str-2.ensures.value,
      c.in_ok-push_literal.ensures,
      c.new-initialization.ensures.bytes,
      c.as_str.ensures.text,
    ) at c.in_ok-push_start.ensures)
    c.from_residual-in_err-push_timeline.result c.from_residual-in_err-push_timeline.ensures.1
    (adds_same (one_element timeline) c.in_err-push_timeline.ensures)

pub returns : goal.returns
returns g c = let head = c.args.head.now in let template = c.args.template.now in
    let timeline = timeline_with true head.first (g.D.Durations.durations c.args.durations.now) in
    adds_node (codes "SegmentTemplate") (template_attributes head.ticks head.offset (doubled head.initialization.now.address)
    (string_bytes template.media) template.number) (timeline ∷ []) refl
    (rw (
      c.template_attributes-attributes.ensures,
      c.as_str-2.ensures.value,
      c.in_ok-push_literal.ensures,
      c.new-initialization.ensures.bytes,
      c.as_str.ensures.text,
    ) at c.in_ok-push_start.ensures)
    (adds_same (one_element timeline) c.in_ok-push_timeline.ensures) c.push_end.ensures

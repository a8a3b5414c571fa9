use Rattle.dash_writer.proofs.segments.push_segments.Goals as goal
use Rattle.std.proofs.Common.{ap}
use Rattle.bridge_io.proofs.Adding.{adds_same}
use Rattle.dash_writer.specs.{Forms.Finds, Written.element_text}
use Rattle.dash_writer.proofs.{Found.{list_is, template_is}, Progress.{nothing_yet, wants}}

pub returns-in-Plain : goal.returns-in-Plain
returns-in-Plain g c = rw c.in-Plain.is c.push_segment_list.ensures

pub returns-in_err-template-in-Players : goal.returns-in_err-template-in-Players
returns-in_err-template-in-Players g c = wants (nothing_yet _ _) c.from_residual.result
    (rw c.in_err-template-in-Players.ensures at c.from_residual.ensures.1)

pub returns-in-Some : goal.returns-in-Some
returns-in-Some g c = let head = c.args.head.now in let part = head.initialization.now in
    let finds = rw (c.requires.same, c.in-Some.is) at c.in_ok-template-in-Players.ensures in
    rw c.in-Players.is (adds_same (ap element_text (template_is head.ticks head.offset head.first part
    (g.D.Durations.durations c.args.durations.now) (g.P.Files.parts c.args.files.now) c.in-Some.template finds)) c.push_template.ensures)

pub returns-in-None : goal.returns-in-None
returns-in-None g c = let head = c.args.head.now in let part = head.initialization.now in
    let finds = rw (c.requires.same, c.in-None.is) at c.in_ok-template-in-Players.ensures in
    rw c.in-Players.is (adds_same (ap element_text (list_is head.ticks head.offset head.first part
    (g.D.Durations.durations c.args.durations.now) (g.P.Files.parts c.args.files.now) finds)) c.push_segment_list-in-None.ensures)

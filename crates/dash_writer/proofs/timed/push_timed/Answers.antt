use Rattle.dash_writer.proofs.timed.push_timed.Goals as goal
use Rattle.std.proofs.Common.{ℕ, List, Some, ap, ◌∙◌}
use Rattle.bridge_io.proofs.Adding.{adds_same}
use Rattle.presentation.specs.Presented.{listed_in}
use Rattle.dash_writer.specs.{Forms.segments_with, Lists.parts_of, Written.element_text}

pub push-requires-clause-addressed : goal.push-requires-clause-addressed
push-requires-clause-addressed g c = c.requires

pub returns : goal.returns
returns g c = let run = c.args.run.now in let runs = c.args.listed.now.runs.now in
    let list = λ (ticks : ℕ) (durations : List ℕ).
    segments_with c.args.listed.now.form ticks (Some run.offset) run.first c.args.part.now durations (parts_of runs (listed_in c.args.listed.now.window runs)) in
    adds_same (ap (λ n. element_text (list n c.as_slice.result.now)) c.from.ensures
    ∙ ap (λ durations. element_text (list run.scale durations)) c.as_slice.ensures) c.push.ensures

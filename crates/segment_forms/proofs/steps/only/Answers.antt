use Rattle.segment_forms.proofs.steps.only.Goals as goal
use Rattle.segment_forms.proofs.StepLemmas.{only_pattern}
use Rattle.std.proofs.Common.{◌∙◌}

pub returns-clause-value : goal.returns-clause-value
returns-clause-value c = let same = c.as_bytes.ensures.value in
    c.pattern_at.ensures.value ∙ only_pattern c.args.first.now c.in_ok-place.place
    (rw same at c.in_ok-place.ensures.digit) (rw same at c.in_ok-place.ensures.value)

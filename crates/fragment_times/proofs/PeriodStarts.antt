-- When Periods start.
use Rattle.std.proofs.Common.{arith}
use Rattle.segment_forms.specs.declared.form.Form.TheVariants.{Plain, Players}
use Rattle.fragment_times.specs.PeriodStarts.{StartsAreBefore}
use Rattle.fragment_times.proofs.Origins.{offsets_are_before}

pub starts_are_before : StartsAreBefore
starts_are_before Plain tracks scaled k d within = omega arith
starts_are_before Players tracks scaled k d within = offsets_are_before tracks scaled k d within

use Rattle.bridge_core.proofs.TimesPromises.{differ_has_another, done_has_times}
use Rattle.bridge_core.proofs.laws.what_agrees_begins_as_its_files_state.Goals as goal

pub returns-clause-done : goal.returns-clause-done
returns-clause-done c = done_has_times c.a_verdict_keeps_the_steps.ensures c.what_agrees_has_the_files_times.ensures.done

pub returns-clause-differ : goal.returns-clause-differ
returns-clause-differ c = differ_has_another c.a_verdict_keeps_the_steps.ensures c.what_agrees_has_the_files_times.ensures.differ

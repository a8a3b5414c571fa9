use Rattle.bridge_core.proofs.TimesPromises.{written_has_times}
use Rattle.bridge_core.proofs.laws.what_is_timed_has_the_files_times.Goals as goal

pub returns : goal.returns
returns c =
    written_has_times c.done_is_whole.ensures c.a_verdict_keeps_the_steps.ensures c.what_is_written_has_the_files_times.ensures

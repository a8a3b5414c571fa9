use Rattle.bridge_core.proofs.laws.what_is_checked_agrees.Goals as goal
use Rattle.bridge_core.proofs.CheckPromises.{differ_is_apart, done_agrees}

pub returns-clause-done : goal.returns-clause-done
returns-clause-done c =
    done_agrees c.a_verdict_keeps_the_steps.ensures c.presentations_mean_their_mpd.ensures.text
    c.read_tracks_can_be_written.ensures.rates
    c.presented_mean_their_files.ensures c.agreeing_has_no_difference.ensures

pub returns-clause-differ : goal.returns-clause-differ
returns-clause-differ c =
    differ_is_apart c.a_verdict_keeps_the_steps.ensures c.presentations_mean_their_mpd.ensures.text
    c.read_tracks_can_be_written.ensures.rates
    c.presented_mean_their_files.ensures c.agreeing_has_no_difference.ensures

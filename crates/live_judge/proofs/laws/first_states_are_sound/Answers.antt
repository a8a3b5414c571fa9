use Rattle.live_judge.proofs.FirstStates.{first_periods_stand, first_states_are_sound}
use Rattle.live_judge.proofs.laws.first_states_are_sound.Goals as goal

pub returns-clause-sound : goal.returns-clause-sound
returns-clause-sound c = let shown = c.presentations_show_their_mpd.ensures in
    first_states_are_sound shown.sections shown.few shown.followed

pub returns-clause-stands : goal.returns-clause-stands
returns-clause-stands c = first_periods_stand c.presentations_show_their_mpd.ensures.sections

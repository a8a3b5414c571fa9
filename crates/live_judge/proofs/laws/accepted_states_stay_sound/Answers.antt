use Rattle.live_judge.proofs.laws.accepted_states_stay_sound.Goals as goal
use Rattle.live_judge.proofs.SoundGoesOn.{kept_go_on, numbers_go_on, periods_stand_on, sound_states_go_on}

pub returns-clause-sound : goal.returns-clause-sound
returns-clause-sound c = let shown = c.presentations_show_their_mpd.ensures in sound_states_go_on shown.few shown.followed

pub returns-clause-stands : goal.returns-clause-stands
returns-clause-stands c = periods_stand_on

pub returns-clause-numbers : goal.returns-clause-numbers
returns-clause-numbers c = let shown = c.presentations_show_their_mpd.ensures in numbers_go_on shown.few shown.followed

pub returns-clause-kept : goal.returns-clause-kept
returns-clause-kept c = kept_go_on

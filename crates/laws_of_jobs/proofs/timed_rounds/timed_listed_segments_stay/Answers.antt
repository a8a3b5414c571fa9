use Rattle.laws_of_jobs.proofs.TimedHistory as history
use Rattle.laws_of_jobs.proofs.timed_rounds.timed_listed_segments_stay.Goals as goal

pub returns-clause-history : goal.returns-clause-history
returns-clause-history c = history.left_is c.what_is_read_is_bounded.ensures

pub returns-clause-stay : goal.returns-clause-stay
returns-clause-stay c = history.segments_stay c.what_is_read_is_bounded.ensures c.timed_segments_stay.ensures

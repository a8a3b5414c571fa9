use Rattle.index_parts.proofs.parts.tracks_of.Goals as goal
use Rattle.std.proofs.{Common.arith, lemmas.Grind.common_steps}
use Rattle.mpd_rules.specs.Views.{period_in}
use Rattle.index_parts.proofs.Ordered.{same_tracks}

pub returns-then-len-gt-TRACK_LIMIT-clause-tracks : goal.returns-then-len-gt-TRACK_LIMIT-clause-tracks
returns-then-len-gt-TRACK_LIMIT-clause-tracks c = rw (same_tracks (period_in c.args.period.now).tracks) (grind (arith, common_steps))

pub returns-clause-tracks : goal.returns-clause-tracks
returns-clause-tracks c = rw (same_tracks (period_in c.args.period.now).tracks) (grind (arith, common_steps))

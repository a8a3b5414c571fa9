use Rattle.hls_follow.proofs.round.place.Goals as goal
use Rattle.std.proofs.Common.{map}
use Rattle.hls_presentation.specs.Views.{source_of}
use Rattle.hls_follow.proofs.Bounded.{early_with}

pub returns-clause-sound : goal.returns-clause-sound
returns-clause-sound c = record {
  early = early_with (map source_of c.args.kept.now) _ c.requires.bounded;
  live = c.in_ok-mpd.ensures.live;
  scaled = rw c.in_ok-mpd.ensures.listed c.in_ok-periods.ensures.scaled;
}

use Rattle.live_session.proofs.maker.Maker.make_all.Given as goal
use Rattle.std.proofs.Common.{◌≡◌, length}
use Rattle.live_meaning.specs.Histories.{Common}
use Rattle.live_session.{specs.Making.IsMakerFor, proofs.TrackMaking.AllSoFar}

abbrev pub invariant-loop-track : goal.invariant-loop-track
invariant-loop-track g l = record {
  count : length l.all.items ≡ l.track;
  so_far : (c : Common) → IsMakerFor c l.fn.self → AllSoFar c l.fn.tracks l.track l.all.items l.fn.steps l.steps;
}

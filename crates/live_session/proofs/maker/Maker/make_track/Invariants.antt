use Rattle.live_session.proofs.maker.Maker.make_track.Given as goal
use Rattle.std.proofs.Common.{◌≤◌}
use Rattle.live_session.{specs.Made.all_made, specs.Making.first_section, proofs.TrackMaking.TrackSoFar}

abbrev pub invariant-loop-section : goal.invariant-loop-section
invariant-loop-section g l = record {
  so_far : TrackSoFar l.fn.self l.fn.track l.last l.section (all_made l.made.items) l.fn.steps l.steps;
  least : first_section l.fn.self.place l.last ≤ l.section;
}

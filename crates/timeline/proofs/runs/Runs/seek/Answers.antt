use Rattle.timeline.specs.Bounds.{low_of}
use Rattle.timeline.proofs.RunsLemmas.{seek_is, seek_end_is}
use Rattle.timeline.proofs.runs.Runs.seek.Goals as goal

pub returns-clause-first : goal.returns-clause-first
returns-clause-first c = rw (c.at.ensures, c.place.ensures)
    (seek_is c.self.invariant c.self.view_is c.args.window.now c.requires.window c.requires.reached c.low.result c.low.ensures)

pub returns-clause-place : goal.returns-clause-place
returns-clause-place c = λ other is_window is_reached. rw (c.at.ensures, c.place.ensures)
    (seek_end_is c.self.invariant c.self.view_is other is_window is_reached c.low.result (low_of c.args.window.now) c.low.ensures)

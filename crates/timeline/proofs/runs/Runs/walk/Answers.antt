use Rattle.timeline.proofs.runs.Runs.walk.Goals as goal
use Rattle.std.proofs.Common.{◌≡◌}
use Rattle.std.specs.Prelude.{option_map}
use Rattle.timeline.specs.{Listed.listed_from, RunSegments.timed}
use Rattle.timeline.proofs.RunsLemmas.{walk_laid, walk_countable, walk_is, walk_paced, limits_are}

pub from-requires-clause-laid : goal.from-requires-clause-laid
from-requires-clause-laid c =
    rw c.as_slice.ensures
    (walk_laid c.self.invariant c.self.view_is c.args.window.now c.requires.window c.requires.reached
    (option_map timed c.tail-tail.result) c.max-begin.result c.saturating_sub-left.result c.tail-tail.ensures.tail
    c.tail-tail.ensures.extents (cc (c.saturating_sub-left.ensures, c.finish.ensures)))

pub from-requires-clause-countable : goal.from-requires-clause-countable
from-requires-clause-countable c =
    walk_countable c.self.invariant c.self.view_is c.args.window.now c.requires.window c.requires.reached c.max-begin.result
    c.saturating_sub-left.result (cc (c.saturating_sub-left.ensures, c.finish.ensures))

pub returns : goal.returns
returns c =
    let listed : c.from.result ≡ listed_from c.args.from.now c.args.self.now c.args.window.now =
    rw (c.from.ensures, c.as_slice.ensures)
    (walk_is c.self.invariant c.self.view_is c.args.window.now c.requires.window c.requires.reached c.low.result c.low.ensures
    c.args.from.now c.max-begin.result c.saturating_sub-left.result (option_map timed c.tail-tail.result) c.tail-tail.ensures.extents
    (cc (c.max-begin.ensures, c.place.ensures, c.place-2.ensures)) (cc (c.saturating_sub-left.ensures, c.finish.ensures))) in
    record {
      listed = listed;
      paced = rw listed
          (walk_paced c.self.invariant c.self.view_is c.args.window.now c.requires.window c.requires.reached c.args.from.now);
      limits = rw listed
          (limits_are c.self.invariant c.self.view_is c.args.window.now c.requires.window c.requires.reached c.args.from.now);
    }

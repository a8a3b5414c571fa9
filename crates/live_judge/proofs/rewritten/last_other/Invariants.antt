use Rattle.live_judge.proofs.rewritten.last_other.Given as goal
use Rattle.std.proofs.Common.{◌≡◌, ◌≤◌, None, length, take}
use Rattle.std.specs.Prelude.{option_map}
use Rattle.exact_time.specs.Tick.{time_of}
use Rattle.live_meaning.specs.Segments.{times_of}
use Rattle.live_judge.specs.{Blocks.in_block, Rewriting.{held, pair_of}}

abbrev pub invariant-loop-left : goal.invariant-loop-left
invariant-loop-left l =
    let olds = times_of (in_block l.block l.track) in
    record {
      can : (goal.iterator-loop-left).can_next l.walk;
      finite : (goal.iterator-loop-left).is_finite l.walk;
      within : l.left ≤ length l.walk;
      same : held olds (time_of l.first) (take l.left l.walk) (option_map pair_of l.found)
          ≡ held olds (time_of l.first) (take l.initial.left l.initial.walk) None;
    }

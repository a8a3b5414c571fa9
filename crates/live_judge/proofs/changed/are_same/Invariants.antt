use Rattle.std.proofs.Common.{◌≡◌, length, map}
use Rattle.std.specs.Prelude.{flat_map}
use Rattle.live_meaning.specs.Known.{all_same, attributes_at}
use Rattle.presentation.proofs.Counts.{from_on}
use Rattle.live_judge.specs.Known.{attributes_shown}
use Rattle.live_judge.proofs.Changing.{one_of}
use Rattle.live_judge.proofs.changed.are_same.Given as goal

abbrev pub invariant-loop-track : goal.invariant-loop-track
invariant-loop-track l =
    all_same (map attributes_shown l.rest) (flat_map (one_of l.force l.section) (from_on l.track (length l.force.tracks)))
    ≡ all_same (map attributes_shown l.kept) (attributes_at l.force l.section)

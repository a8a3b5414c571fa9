use Rattle.std.proofs.Common.{◌≡◌, drop}
use Rattle.fragment_times.specs.Origins.{count_of, least_behind}
use Rattle.fragment_times.proofs.origin.count_of.Given as goal

-- the least number so far, and then of the tracks that are left, is the least one of all
abbrev pub invariant-loop-track : goal.invariant-loop-track
invariant-loop-track l = least_behind l.count l.unit (drop l.track-index l.others) ≡ count_of l.unit l.tracks

use Rattle.mpd_hints.proofs.tracks.add_all.Given as goal
use Rattle.std.proofs.Common.{◌≡◌, ◌++◌}

abbrev pub invariant-loop-one : goal.invariant-loop-one
invariant-loop-one l = l.hints ≡ l.fn.hints ++ l.yielded

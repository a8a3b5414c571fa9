use Rattle.std.proofs.Common.{◌≡◌, ◌++◌, drop}
use Rattle.hls_writer.specs.Master.{tracks_in}
use Rattle.hls_writer.proofs.master.tracks_in.Given as goal

abbrev pub invariant-loop-group : goal.invariant-loop-group
invariant-loop-group l = l.found ++ tracks_in (drop l.group-index l.groups) ≡ tracks_in l.groups

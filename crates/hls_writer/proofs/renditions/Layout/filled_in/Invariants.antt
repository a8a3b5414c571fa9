use Rattle.std.proofs.Common.{◌≡◌, drop, []}
use Rattle.hls_writer.specs.{LaidOut.laid, Renditions.filled_from}
use Rattle.hls_writer.proofs.renditions.Layout.filled_in.Given as goal

abbrev pub invariant-loop-set : goal.invariant-loop-set
invariant-loop-set l = filled_from (laid l.self) l.group l.found.items l.set (drop l.set l.members)
    ≡ filled_from (laid l.self) l.group [] 0 l.members

use Rattle.std.proofs.Common.{◌≡◌, drop, []}
use Rattle.hls_writer.specs.{LaidOut.laid, Renditions.filled_renditions}
use Rattle.hls_writer.proofs.renditions.Layout.filled_renditions.Given as goal

abbrev pub invariant-loop-group : goal.invariant-loop-group
invariant-loop-group l = filled_renditions (laid l.self) l.found.items l.group (drop l.group l.self.groups.now)
    ≡ filled_renditions (laid l.self) [] 0 l.self.groups.now

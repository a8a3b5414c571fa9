use Rattle.std.proofs.Common.{◌≡◌, drop, []}
use Rattle.hls_writer.specs.{LaidOut.laid, Renditions.text_from}
use Rattle.hls_writer.proofs.renditions.Layout.text_renditions.Given as goal

abbrev pub invariant-loop-number : goal.invariant-loop-number
invariant-loop-number l = text_from (laid l.self) l.found.items l.number (drop l.number l.self.texts.now)
    ≡ text_from (laid l.self) [] 0 l.self.texts.now

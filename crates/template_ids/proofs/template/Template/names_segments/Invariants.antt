use Rattle.std.proofs.Common.{take}
use Rattle.template_ids.specs.Long.{ForEach, IsSegment}
use Rattle.template_ids.proofs.LongNames.{so_far}
use Rattle.template_ids.proofs.template.Template.names_segments.Given as goal

abbrev pub invariant-loop-piece : goal.invariant-loop-piece
invariant-loop-piece l = ForEach (so_far l.self l.id l.bandwidth (take l.piece-index l.piece-items)) IsSegment

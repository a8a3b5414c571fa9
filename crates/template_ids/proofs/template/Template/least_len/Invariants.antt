use Rattle.std.proofs.Common.{take}
use Rattle.template_ids.specs.Long.{ForEach, IsAtLeast}
use Rattle.template_ids.proofs.LongNames.{so_far}
use Rattle.template_ids.proofs.template.Template.least_len.Given as goal

abbrev pub invariant-loop-piece : goal.invariant-loop-piece
invariant-loop-piece l = ForEach (so_far l.self l.id l.bandwidth (take l.piece-index l.piece-items)) (IsAtLeast l.len)

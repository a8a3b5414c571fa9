use Rattle.std.proofs.Common.{take}
use Rattle.url_parts.specs.Alike.{IsInLineAs}
use Rattle.url_parts.proofs.alike.in_line.Given as goal

-- what is kept stands for the text so far
abbrev pub invariant-loop-byte : goal.invariant-loop-byte
invariant-loop-byte l = IsInLineAs (take l.byte-index l.byte-items) l.kept.items

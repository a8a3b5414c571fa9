use Rattle.bridge_io.proofs.sheet.Sheet.push_pieces.Given as goal
use Rattle.std.proofs.Common.{take, Ok}
use Rattle.bridge_io.specs.{Adding.Adds, Pieces.pieces_text}

-- the pieces so far are added
abbrev pub invariant-loop-piece : goal.invariant-loop-piece
invariant-loop-piece g l = Adds {T = Unit {0}} g.F.Store (pieces_text (take l.piece-index l.pieces)) l.initial.self l.self (Ok tt)

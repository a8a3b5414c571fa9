use Rattle.template_ids.proofs.template.Template.filled.Given as goal
use Rattle.std.proofs.Common.{◌≡◌, ℕ, take, flat_map}
use Rattle.template_ids.specs.{Filled.{ids_with, name_of}, Pieces.piece_text}

-- the names so far are what the pieces so far stand for
abbrev pub invariant-loop-piece : goal.invariant-loop-piece
invariant-loop-piece l = (number time : ℕ) → name_of l.filled number time
    ≡ flat_map (piece_text l.template (ids_with l.id l.bandwidth number time)) (take l.piece-index l.piece-items)

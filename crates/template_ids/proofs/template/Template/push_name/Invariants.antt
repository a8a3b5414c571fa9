use Rattle.template_ids.proofs.template.Template.push_name.Given as goal
use Rattle.std.proofs.Common.{◌≡◌, ◌++◌, take, string_bytes, flat_map}
use Rattle.template_ids.specs.{Pieces.piece_text, Templates.ids_of}

-- the text so far ends in what the pieces so far stand for
abbrev pub invariant-loop-piece : goal.invariant-loop-piece
invariant-loop-piece l = string_bytes l.text ≡ string_bytes l.fn.text ++ flat_map (piece_text l.template (ids_of l.ids))
    (take l.piece-index l.piece-items)

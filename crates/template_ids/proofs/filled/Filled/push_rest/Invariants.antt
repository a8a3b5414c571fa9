use Rattle.template_ids.proofs.filled.Filled.push_rest.Given as goal
use Rattle.std.proofs.Common.{◌≡◌, ◌++◌, take, string_bytes, flat_map}
use Rattle.template_ids.specs.Filled.{slot_text}

-- the text so far ends in what the numbers so far stand for
abbrev pub invariant-loop-slot : goal.invariant-loop-slot
invariant-loop-slot l = string_bytes l.text ≡ string_bytes l.fn.text ++ flat_map (slot_text l.number l.time) (take l.slot-index l.slot-items)

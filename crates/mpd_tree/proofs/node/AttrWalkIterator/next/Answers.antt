use Rattle.mpd_tree.proofs.node.AttrWalkIterator.next.Goals as goal
use Rattle.std.proofs.{Common.{length, drop, ◌-◌, string_bytes, arith}, lemmas.List.{length-map, length-take, length-drop}}
use Rattle.std.proofs.lemmas.List.Elements.{All-drop, All-take}
use Rattle.mpd_tree.specs.{Nodes.kept_of, Rows.IsAttributeKept}

pub invariant_of-self : goal.invariant_of-self
invariant_of-self c =
    let w = c.args.self.now in
    let IsHere = IsAttributeKept (string_bytes w.tree.now.source) (kept_of w.tree.now) in
    record { kept = All-take IsHere (length w.rest.now - 1) (drop 1 w.rest.now) (All-drop IsHere 1 w.rest.now w.kept) }

pub returns-in-len1-up-clause-goes : goal.returns-in-len1-up-clause-goes
returns-in-len1-up-clause-goes c =
    record { on = λ _. (tt, tt, grind (arith, length-map, length-take, length-drop)); keeps = tt; rests = λ _. tt }

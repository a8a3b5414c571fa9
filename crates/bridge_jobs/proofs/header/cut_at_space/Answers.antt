use Rattle.bridge_jobs.proofs.header.cut_at_space.Goals as goal
use Rattle.std.proofs.{Common.{◌≡◌, ◌∙◌, ◌+◌, ◌-◌, List, ℕ, length, take, drop, Some, ap, arith, length-drop}, lemmas.List.take_all}
use Rattle.bridge_jobs.specs.Headers.{cut_at}

pub returns : goal.returns
returns c =
    let text = c.args.text.now in
    let space = c.in_ok-space.space in
    let rest : take (length text - (space + 1)) (drop (space + 1) text) ≡ drop (space + 1) text =
    take_all _ _ (omega (arith, length-drop (space + 1) text)) in
    ap (λ (x : List ℕ). Some (take space text, x)) rest ∙ ap (cut_at text) c.in_ok-space.ensures.space

use Rattle.mpd_profile.proofs.refusal.check_all.Goals as goal
use Rattle.std.proofs.{Common.[], lemmas.Result.err_from_is_err_and}
use Rattle.mpd_tree.specs.Nodes.{element_of}
use Rattle.mpd_profile.proofs.Passing.{root_told, root_untold}

pub returns-in_err-check : goal.returns-in_err-check
returns-in_err-check c =
    let p = err_from_is_err_and c.from_residual.result c.from_residual.ensures.1 in
    rw (p.1, p.2) (root_told c.args.pass (element_of c.args.root) _
    (rw c.is_dynamic-dynamic.ensures at (c.in_err-check.ensures [] c.new.ensures)))

pub returns : goal.returns
returns c =
    root_untold c.args.pass (element_of c.args.root) _ (rw c.is_dynamic-dynamic.ensures at (c.in_ok-check.ensures [] c.new.ensures))
    (rw (c.of.ensures.listed, c.of.ensures.node, c.of.ensures.dynamic, c.is_dynamic-dynamic.ensures) at c.check_inside.ensures)

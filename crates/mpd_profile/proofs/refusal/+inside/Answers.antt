use Rattle.mpd_profile.proofs.refusal.+inside.Goals as goal
use Rattle.std.proofs.{Common.{◌<◌, ◌∙◌, sym, arith}, lemmas.Result.err_from_is_err_and}
use Rattle.mpd_tree.specs.{Nodes.{element_of, elements_left}, Trees.depth}
use Rattle.mpd_profile.specs.Passes.{parent_shown}
use Rattle.mpd_profile.proofs.Passing.{around_is, at_end, at_first, at_next, inside_told, is_less, itself_told, nothing_inside}
use Rattle.mpd_profile.proofs.Passing.{nothing_told, told_here}

pub check_child-returns-then-is_left_out : goal.check_child-returns-then-is_left_out
check_child-returns-then-is_left_out t c = λ before behind.
    nothing_told c.args.pass (parent_shown c.args.parent.now) before (element_of c.args.node) _ _
    (record { listed = rw (c.name.ensures, c.addressing.ensures) at c.child-listed.ensures; typed = c.args.parent.now.has_media_type })
    (sym c.is_left_out.ensures ∙ c.if-is_left_out.true)

pub check_child-returns-in_err-check : goal.check_child-returns-in_err-check
check_child-returns-in_err-check t c = λ before behind.
    let p = err_from_is_err_and c.from_residual.result c.from_residual.ensures.1 in
    rw (p.1, p.2)
    (itself_told c.args.pass (parent_shown c.args.parent.now) before (element_of c.args.node) _ _ _
    (record { listed = rw (c.name.ensures, c.addressing.ensures) at c.child-listed.ensures; typed = c.args.parent.now.has_media_type })
    (sym c.is_left_out.ensures ∙ c.if-is_left_out.false)
    (c.in_err-check.ensures before behind))

pub check_child-returns-in-Some : goal.check_child-returns-in-Some
check_child-returns-in-Some t c = λ before behind.
    inside_told c.args.pass (parent_shown c.args.parent.now) before (element_of c.args.node) _ _ c.in-Some.listed _
    (record { listed = rw (c.name.ensures, c.addressing.ensures) at c.child-listed.ensures; typed = c.args.parent.now.has_media_type })
    (sym c.is_left_out.ensures ∙ c.if-is_left_out.false)
    (around_is _ _ (element_of c.args.node).children (sym c.around_others.ensures ∙ c.in-Some.is)) (c.in_ok-check.ensures before behind)
    (rw (c.of.ensures.listed, c.of.ensures.node, c.of.ensures.dynamic) at c.check_inside.ensures)

pub check_child-returns-in-None : goal.check_child-returns-in-None
check_child-returns-in-None t c = λ before behind.
    nothing_inside c.args.pass (parent_shown c.args.parent.now) before (element_of c.args.node) _ _
    (record { listed = rw (c.name.ensures, c.addressing.ensures) at c.child-listed.ensures; typed = c.args.parent.now.has_media_type })
    (sym c.is_left_out.ensures ∙ c.if-is_left_out.false)
    (sym c.around_others.ensures ∙ c.in-None.is) (c.in_ok-check.ensures before behind)

pub check_inside-loop-node-init : goal.check_inside-loop-node-init
check_inside-loop-node-init t c = (
  tt,
  tt,
  at_first c.args.pass (parent_shown c.args.parent.now)
      (element_of c.args.parent.now.node).children c.new-siblings.result _ c.new-siblings.ensures
      (rw c.into_iter-node-iterator.ensures.into_iter_gives c.children-node-items.ensures),
)

pub check_inside-check_child-requires : goal.check_inside-check_child-requires
check_inside-check_child-requires t c =
    let less : depth (element_of c.in-Some.node).children < depth (element_of c.args.parent.now.node).children =
    is_less c.args.pass (parent_shown c.args.parent.now) (element_of c.args.parent.now.node).children c.loop-node.siblings
    (elements_left c.loop-node.node-iterator) (elements_left c.next.new.self)
    (element_of c.in-Some.node) c.loop-node.invariant.2 c.in-Some.ensures.steps in
    omega (arith, c.decreases)

pub check_inside-returns-in_err-check_child : goal.check_inside-returns-in_err-check_child
check_inside-returns-in_err-check_child t c =
    let at = c.loop-node.invariant.2 in
    let p = err_from_is_err_and c.from_residual.result c.from_residual.ensures.1 in
    rw (p.1, p.2)
    (told_here c.args.pass (parent_shown c.args.parent.now)
    (element_of c.args.parent.now.node).children c.loop-node.siblings _ _ _ _ at c.in-Some.ensures.steps
    (c.in_err-check_child.ensures at.before at.behind))

pub check_inside-loop-node-preserved : goal.check_inside-loop-node-preserved
check_inside-loop-node-preserved t c =
    let at = c.loop-node.invariant.2 in (
      tt,
      tt,
      at_next c.args.pass (parent_shown c.args.parent.now)
          (element_of c.args.parent.now.node).children c.loop-node.siblings _ _ _ _ at c.in-Some.ensures.steps
          (c.in_ok-check_child.ensures at.before at.behind) (c.in_ok-add.ensures.added at.before at.behind),
    )

pub check_inside-returns : goal.check_inside-returns
check_inside-returns t c =
    at_end c.args.pass (parent_shown c.args.parent.now)
    (element_of c.args.parent.now.node).children c.loop-node.siblings _ c.loop-node.invariant.2 c.in-None.ensures.steps.0

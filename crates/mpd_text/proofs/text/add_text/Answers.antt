use Rattle.mpd_text.proofs.text.add_text.Goals as goal
use Rattle.std.proofs.{Common.sym, lemmas.Result.err_from_is_err_and}
use Rattle.mpd_text.proofs.{Loop.{loop_cut, loop_failed, loop_stepped}, Rests.{cut_behind, ends}, TextLoop.{part_cut, part_is, part_rest}}

pub range-requires-clause-start_boundary : goal.range-requires-clause-start_boundary
range-requires-clause-start_boundary c = λ _. cut_behind c.args.source.now c.loop.rest.now c.utf8.source c.loop.invariant.left

pub range-requires-clause-end_boundary : goal.range-requires-clause-end_boundary
range-requires-clause-end_boundary c = (part_cut c.args.source.now c.loop.rest.now c.plain_of.result.0.now c.args.marks.now
    (ends c.args.source.now c.loop.rest.now c.loop.invariant.left) c.requires.ascii c.plain_of.ensures.plain).0

pub returns-in_err-is_ended-clause-read : goal.returns-in_err-is_ended-clause-read
returns-in_err-is_ended-clause-read c =
    let p = err_from_is_err_and c.from_residual-in_err-is_ended.result c.from_residual-in_err-is_ended.ensures.1 in
    let is = part_is c.args.stop _ _ _ _ _ _ _ _ c.loop.invariant.left c.requires.ascii c.plain_of.ensures.plain c.plain_of.ensures.rest
    c.range.ensures.value c.in_ok-push_str.ensures.bytes in
    rw (p.1, p.2) (loop_failed _ _ _ c.loop.invariant.so_far c.loop-test.true c.in_err-is_ended.field-0.0
    (rw is at c.in_err-is_ended.ensures))

pub returns-then-is_ended : goal.returns-then-is_ended
returns-then-is_ended c =
    let left = c.loop.invariant.left in
    let is = part_is c.args.stop _ _ _ _ _ _ _ _ left c.requires.ascii c.plain_of.ensures.plain c.plain_of.ensures.rest
    c.range.ensures.value c.in_ok-push_str.ensures.bytes in
    let step = rw (is, c.if-is_ended.true) at c.in_ok-is_ended.ensures in
    record {
      read = sym (loop_stepped _ _ _ c.loop.invariant.so_far c.loop-test.true step);
      rest = part_rest c.args.marks.now c.args.stop _ c.args.source.now c.loop.rest.now _ (ends _ _ left) c.requires.ascii step;
    }

pub loop-preserved : goal.loop-preserved
loop-preserved c =
    let left = c.loop.invariant.left in
    let is = part_is c.args.stop _ _ _ _ _ _ _ _ left c.requires.ascii c.plain_of.ensures.plain c.plain_of.ensures.rest
    c.range.ensures.value c.in_ok-push_str.ensures.bytes in
    let step = rw (is, c.if-is_ended.false) at c.in_ok-is_ended.ensures in
    record {
      so_far = loop_stepped _ _ _ c.loop.invariant.so_far c.loop-test.true step;
      left = part_rest c.args.marks.now c.args.stop _ c.args.source.now c.loop.rest.now _ (ends _ _ left) c.requires.ascii step;
    }

pub returns-clause-read : goal.returns-clause-read
returns-clause-read c =
    rw c.syntax.ensures (loop_cut _ _ _ c.loop.invariant.so_far c.loop-test.false)

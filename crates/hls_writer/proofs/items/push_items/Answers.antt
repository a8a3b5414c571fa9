use Rattle.hls_writer.proofs.items.push_items.Goals as goal
use Rattle.std.proofs.Common.{◌++◌, ap}
use Rattle.hls_writer.specs.{Items.item_of, Lines.lines_text, Playlists.item_lines, Spelled.spelled_item}
use Rattle.bridge_io.proofs.Adding.{adds_same, adds_then, adds_stop_at}
use Rattle.hls_writer.proofs.{Following.left_is, Sections.one_more}

pub loop-item-preserved : goal.loop-item-preserved
loop-item-preserved g c =
    let l = c.loop-item in
    let item = c.item-item.result in
    let written = spelled_item c.args.spelling.now (item_of item) in
    let left = left_is c.args.items.now l.item-index item c.loop-item-test.true c.item-item.is in
    record {
      done = (
        l.invariant.done.0 ++ lines_text (item_lines c.args.digits l.former written),
        one_more c.args.digits l.former written _ l.invariant.done.0 _ (rw left at l.invariant.done.1),
        adds_then _ l.invariant.done.2 c.in_ok-push_to.ensures,
      );
      last = rw left at l.invariant.last;
    }

pub returns-in_err-push_to-clause-adds : goal.returns-in_err-push_to-clause-adds
returns-in_err-push_to-clause-adds g c =
    let l = c.loop-item in
    let item = c.item-item.result in
    let written = spelled_item c.args.spelling.now (item_of item) in
    let left = left_is c.args.items.now l.item-index item c.loop-item-test.true c.item-item.is in
    adds_same (one_more c.args.digits l.former written _ l.invariant.done.0 _ (rw left at l.invariant.done.1))
    (adds_stop_at _ c.from_residual.result c.from_residual.ensures.1 (adds_then _ l.invariant.done.2 c.in_err-push_to.ensures))

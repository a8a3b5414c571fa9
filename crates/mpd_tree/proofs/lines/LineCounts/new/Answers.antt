use Rattle.mpd_tree.proofs.lines.LineCounts.new.Goals as goal
use Rattle.std.proofs.Common.{◌≡◌, ◌+◌, ◌*◌, take, count_by, arith}
use Rattle.byte_scan.specs.Lines.{is_line_feed}
use Rattle.mpd_tree.specs.Lines.{block_size}
use Rattle.mpd_tree.proofs.LineLemmas.{line_counts, one_more_block}

pub overflow_add-count : goal.overflow_add-count
overflow_add-count c = grind (arith, line_counts)

pub loop-block-preserved : goal.loop-block-preserved
loop-block-preserved c =
    let count_is : c.loop-block.count + c.count_lf-count.result
    ≡ count_by is_line_feed (take ((c.loop-block.block + 1) * block_size) c.args.bytes.now) = grind (arith, line_counts) in
    record {
      counted = rw c.in_ok-push-2.ensures.items (one_more_block _ _ _ _ c.loop-block.invariant.counted count_is);
      count_is = count_is;
    }

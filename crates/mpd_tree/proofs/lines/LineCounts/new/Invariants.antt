use Rattle.mpd_tree.proofs.lines.LineCounts.new.Given as goal
use Rattle.std.proofs.Common.{◌≡◌, ◌*◌, take, count_by}
use Rattle.byte_scan.specs.Lines.{is_line_feed}
use Rattle.mpd_tree.specs.Lines.{AreCounted, block_size}

abbrev pub invariant-loop-block : goal.invariant-loop-block
invariant-loop-block l = record {
  counted : AreCounted l.bytes l.block l.before.items;
  count_is : l.count ≡ count_by is_line_feed (take (l.block * block_size) l.bytes);
}

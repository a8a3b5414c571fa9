use Rattle.std.proofs.Common.{◌≡◌, ◌-◌, ◌≤◌, ◌+◌, ◌<◌, ◌⊎◌, length, take, get_or}
use Rattle.std.specs.List.{suffix_len}
use Rattle.hls_lines.specs.Lines.{is_blank}
use Rattle.hls_lines.proofs.lines.trimmed_len.Given as goal

abbrev pub invariant-loop-len : goal.invariant-loop-len
invariant-loop-len l = record {
  within : l.len ≤ length l.line;
  passed : suffix_len is_blank l.line ≡ length l.line - l.len + suffix_len is_blank (take l.len l.line);
  ascii : (l.len ≡ length l.line) ⊎ (get_or l.line l.len 0 < 128);
}

abbrev pub decreases-loop-len : goal.decreases-loop-len
decreases-loop-len l = l.len

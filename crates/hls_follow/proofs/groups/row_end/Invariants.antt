use Rattle.std.proofs.Common.{◌≡◌, ◌<◌, ◌^◌, drop, max}
use Rattle.hls_follow.specs.Groups.{row_at, row_end}
use Rattle.hls_follow.proofs.groups.row_end.Given as goal

abbrev pub invariant-loop-track : goal.invariant-loop-track
invariant-loop-track l = record {
  told : max l.end (row_end (row_at (drop l.track-index l.tracks) l.place)) ≡ row_end (row_at l.tracks l.place);
  near : l.end < 2 ^ 66;
}

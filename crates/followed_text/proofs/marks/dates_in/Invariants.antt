use Rattle.std.proofs.Common.{◌≡◌, ◌++◌, All, length}
use Rattle.iso_time.specs.Instant.{IsReadable}
use Rattle.followed_text.specs.Followed.{dates_of}
use Rattle.followed_text.proofs.marks.dates_in.Given as goal

abbrev pub invariant-loop-line : goal.invariant-loop-line
invariant-loop-line l = record {
  dates : dates_of l.fn.lines ≡ l.dates ++ dates_of l.lines;
  readable : All IsReadable l.dates;
}

abbrev pub decreases-loop-line : goal.decreases-loop-line
decreases-loop-line l = length l.lines

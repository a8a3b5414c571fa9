use Rattle.std.proofs.Common.{◌≡◌, ◌+◌, ◌≤◌, length}
use Rattle.reload_law.specs.Rules.{first_other, same_section, same_segment, or_else}
use Rattle.reload_law.proofs.segments.compare.Given as goal

-- what is found of the segments that are left, and before them
abbrev pub invariant-loop-old : goal.invariant-loop-old
invariant-loop-old l = record {
  segments : first_other same_segment l.number l.olds l.news ≡ first_other same_segment l.first l.fn.olds l.fn.news;
  sections : or_else l.section (first_other same_section l.number l.olds l.news) ≡ first_other same_section l.first l.fn.olds l.fn.news;
  number : l.number + length l.olds ≤ l.first + length l.fn.olds;
}

abbrev pub decreases-loop-old : goal.decreases-loop-old
decreases-loop-old l = length l.olds

use Rattle.std.proofs.Common.{◌≡◌, ◌+◌, ◌-◌, ◌*◌, ◌^◌, ◌<◌, ◌≤◌, ◌++◌, length, sum, All}
use Rattle.dash_writer.specs.Timed.{CanBeCounted, lengths, sections_from}
use Rattle.dash_writer.proofs.timed.sections_of.Given as goal

-- the sections so far, with those of the times that are left
abbrev pub invariant-loop-rest : goal.invariant-loop-rest
invariant-loop-rest l = let left = l.count - length l.sections in record {
  within : length l.sections ≤ l.count;
  filled : length l.rest ≡ left * l.tracks;
  counted : All CanBeCounted l.rest;
  room : l.start + sum (lengths l.tracks left l.rest) < 10 ^ 19;
  goes : l.sections ++ sections_from l.start (lengths l.tracks left l.rest) ≡ sections_from 0 (lengths l.tracks l.count l.times);
}

abbrev pub decreases-loop-rest : goal.decreases-loop-rest
decreases-loop-rest l = l.count - length l.sections

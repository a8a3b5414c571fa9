use Rattle.std.proofs.Common.{◌≡◌, ◌≤◌, ◌+◌, length}
use Rattle.std.specs.Prelude.{count_by}
use Rattle.box_reader.specs.Boxes.{boxes_of}
use Rattle.box_reader.proofs.boxes.Boxes.count.Given as goal

-- the boxes so far are counted
abbrev pub invariant-walk : goal.invariant-walk
invariant-walk g l =
    let passes = g.T.BoxTest.passes l.test in
    record {
      count : l.count + count_by passes (boxes_of l.self).boxes ≡ count_by passes (boxes_of l.fn.self).boxes;
      fault : (boxes_of l.self).fault ≡ (boxes_of l.fn.self).fault;
      room : l.count + length l.self.bytes ≤ length l.fn.self.bytes;
    }

abbrev pub decreases-walk : goal.decreases-walk
decreases-walk g l = length l.self.bytes

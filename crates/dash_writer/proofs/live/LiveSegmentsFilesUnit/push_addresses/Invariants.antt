use Rattle.dash_writer.proofs.live.LiveSegmentsFilesUnit.push_addresses.Given as goal
use Rattle.std.proofs.Common.{◌≡◌, ◌++◌, drop, map}
use Rattle.std.specs.List.{list_all}
use Rattle.dash_writer.specs.{Forms.{addresses_of, is_whole}, Live.part_of}

abbrev pub invariant-loop-segment : goal.invariant-loop-segment
invariant-loop-segment l =
    let rest = map part_of (drop l.segment-index l.self.left.now) in let all = map part_of l.self.left.now in
    record {
      whole : list_all is_whole rest ≡ list_all is_whole all;
      given : l.finder ++ addresses_of rest ≡ l.initial.finder ++ addresses_of all;
    }

use Rattle.fragment_times.specs.Times.{parts_of}
use Rattle.bridge_reach.proofs.Passing.{passes, still_addressed}
use Rattle.bridge_reach.proofs.segment_file.behind.Goals as goal

pub loop-segment-preserved : goal.loop-segment-preserved
loop-segment-preserved g c =
    let l = c.loop-segment in let listing = c.args.listing in
    record {
      addressed = still_addressed l.rest c.pass.new.self c.pass.result c.pass.ensures.segment l.invariant.addressed;
      parts = passes l.rest c.pass.new.self c.pass.result c.pass.ensures.segment l._segment (parts_of listing.timeline listing.left)
          l.invariant.parts;
    }

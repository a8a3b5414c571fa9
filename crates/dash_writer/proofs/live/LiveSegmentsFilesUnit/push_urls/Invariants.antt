use Rattle.dash_writer.proofs.live.LiveSegmentsFilesUnit.push_urls.Given as goal
use Rattle.std.proofs.Common.{List, drop, map}
use Rattle.dash_writer.specs.{declared.live.LiveSegment.LiveSegment, Live.part_of, Segments.segment_url, Written.elements_text}
use Rattle.dash_writer.proofs.Progress.{Progress}

abbrev pub invariant-loop-segment : goal.invariant-loop-segment
invariant-loop-segment g l =
    let urls = λ (segments : List LiveSegment). elements_text (map segment_url (map part_of segments)) in
    Progress g.F.Store (urls l.self.left.now) (urls (drop l.segment-index l.self.left.now)) l.initial.sheet l.sheet

use Rattle.dash_writer.proofs.live.LiveSegmentsFilesUnit.push_urls.Goals as goal
use Rattle.std.proofs.Common.{◌+◌, drop, map}
use Rattle.dash_writer.specs.{Live.part_of, Segments.segment_url, Written.elements_text}
use Rattle.dash_writer.proofs.{LiveTracks.segments_behind, Progress.{fails, further}}

pub returns-in_err-push_url : goal.returns-in_err-push_url
returns-in_err-push_url g c = let l = c.loop-segment in let segments = c.args.self.now.left.now in
    fails l.invariant _ (elements_text (map segment_url (map part_of (drop (l.segment-index + 1) segments))))
    (segments_behind segments l.segment-index c.segment-item.result c.loop-segment-test.true c.segment-item.is)
    c.from_residual.result c.from_residual.ensures.1 (rw c.as_str.ensures.text at c.in_err-push_url.ensures)

pub loop-segment-preserved : goal.loop-segment-preserved
loop-segment-preserved g c = let l = c.loop-segment in let segments = c.args.self.now.left.now in
    further l.invariant _ (elements_text (map segment_url (map part_of (drop (l.segment-index + 1) segments))))
    (segments_behind segments l.segment-index c.segment-item.result c.loop-segment-test.true c.segment-item.is)
    (rw c.as_str.ensures.text at c.in_ok-push_url.ensures)

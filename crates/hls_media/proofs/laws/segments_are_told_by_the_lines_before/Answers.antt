use Rattle.hls_media.proofs.Told.{segments_are_told}
use Rattle.hls_media.proofs.laws.segments_are_told_by_the_lines_before.Goals as goal

pub returns : goal.returns
returns c = segments_are_told

use Rattle.hls_follow.proofs.groups.first_of.Goals as goal
use Rattle.std.proofs.Common.{◌∙◌, ap}
use Rattle.std.specs.List.{prefix_len}
use Rattle.hls_media.specs.declared.media.MediaSegment.{MediaSegment}
use Rattle.hls_follow.specs.Groups.{is_of}
use Rattle.hls_follow.proofs.Cutting.{first_cut}

pub returns-clause-cut : goal.returns-clause-cut
returns-clause-cut c =
    let all = c.args.segments.now in
    let first = c.index-segments-0.result in
    first_cut c.count_of-count.result all first c.requires c.index-segments-0.is
    (c.count_of-count.ensures ∙ ap (λ (s : MediaSegment). prefix_len (is_of s.section) all) c.segment.ensures)

use Rattle.hls_writer.proofs.finished.push_section.Goals as goal
use Rattle.std.proofs.Common.{ap, ◌^◌}
use Rattle.presentation.specs.Presented.{content_at, listed_at}
use Rattle.presentation.proofs.Allowed.{have_addresses, verified_are_counted}
use Rattle.hls_writer.specs.{Lines.lines_text, Playlists.items_lines, Spelled.spelled_items}
use Rattle.bridge_io.proofs.Adding.{adds_same}
use Rattle.hls_writer.proofs.Sections.{rest_addressed, rest_items}

pub segments-segments-requires-clause-reached : goal.segments-segments-requires-clause-reached
segments-segments-requires-clause-reached g c = let t = c.args.track.now in let v = c.requires.verified in
    verified_are_counted t.presentation.now (10 ^ t.digits) c.args.section t.track v.longest v.is c.requires.section c.requires.track

pub push_segments-requires : goal.push_segments-requires
push_segments-requires g c = let t = c.args.track.now in let v = c.requires.verified in let p = t.presentation.now in
    rest_addressed (10 ^ t.digits) c.args.section (listed_at p c.args.section t.track) c.initialization.result.now
    c.segments-segments.result (content_at p c.args.section t.track) c.initialization.ensures c.segments-segments.ensures
    (have_addresses p (10 ^ t.digits) c.args.section t.track v.longest v.is c.requires.section c.requires.track)

pub returns-clause-adds : goal.returns-clause-adds
returns-clause-adds g c = let t = c.args.track.now in let p = t.presentation.now in
    let items = rest_items (10 ^ t.digits) c.args.section
    (listed_at p c.args.section t.track) c.initialization.result.now c.segments-segments.result
    (content_at p c.args.section t.track) c.initialization.ensures c.segments-segments.ensures in
    adds_same (ap (λ xs. lines_text (items_lines t.digits c.args.former (spelled_items t.spelling.now xs))) items)
    c.push_segments.ensures.adds

use Rattle.hls_presentation.proofs.playlists.present_groups.Goals as goal
use Rattle.std.proofs.{Common.map, lemmas.Result.err_from_is_err_and}
use Rattle.hls_presentation.specs.{Views.source_of, Sections.rows_of}
use Rattle.hls_presentation.proofs.{Came.all_ended, Turns.{filled_by, presented_as, refused_by}}

pub from_parts-requires-clause-filled : goal.from_parts-requires-clause-filled
from_parts-requires-clause-filled c =
    filled_by _ (map source_of c.args.kept.now) c.args.groups.now c.in_ok-tracks.tracks c.in_ok-sections.sections c.in_ok-contents.contents
    c.requires.groups c.in_ok-tracks.ensures c.in_ok-sections.ensures c.in_ok-contents.ensures

pub from_parts-requires-clause-ended : goal.from_parts-requires-clause-ended
from_parts-requires-clause-ended c = all_ended _ (rows_of c.args.groups.now) c.in_ok-contents.contents c.in_ok-contents.ensures

pub returns-in_err-contents : goal.returns-in_err-contents
returns-in_err-contents c =
    let fault = err_from_is_err_and c.from_residual.result c.from_residual.ensures.1 in
    rw (fault.1, fault.2) (refused_by c.of.result.nanos (map source_of c.args.kept.now) c.args.left_out
    (rows_of c.args.groups.now) c.in_err-contents.field-0.0 c.of.ensures c.in_err-contents.ensures)

pub returns : goal.returns
returns c =
    presented_as c.of.result.nanos (map source_of c.args.kept.now) c.args.left_out
    (rows_of c.args.groups.now) c.in_ok-contents.contents c.in_ok-tracks.tracks c.in_ok-sections.sections _
    c.of.ensures c.in_ok-contents.ensures c.in_ok-tracks.ensures c.in_ok-sections.ensures c.from_parts.ensures

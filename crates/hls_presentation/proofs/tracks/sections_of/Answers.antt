use Rattle.hls_presentation.proofs.tracks.sections_of.Goals as goal
use Rattle.std.proofs.Common.{◌<◌, ◌^◌, arith}
use Rattle.std.specs.List.{sum_by}
use Rattle.hls_presentation.specs.Sections.{row_length, rows_of, section_count}
use Rattle.hls_presentation.proofs.{Rows.{length_next, within_limit}, Turns.sections_turn}

pub section_at-requires : goal.section_at-requires
section_at-requires c =
    let tracks = c.args.tracks.now in
    let more = length_next tracks c.loop-place.place (section_count tracks) (omega arith) in
    let total : sum_by row_length (rows_of tracks) < 10 ^ 19 = (within_limit (rows_of tracks) c.requires).total in
    record {
      begun = omega (arith, c.loop-place.invariant.sum);
      short = omega (arith, c.row_length-length.ensures, c.loop-place.invariant.sum);
    }

pub loop-place-preserved : goal.loop-place-preserved
loop-place-preserved c =
    let tracks = c.args.tracks.now in
    let count = section_count tracks in
    let more = length_next tracks c.loop-place.place count (omega arith) in
    record {
      told = rw (c.in_ok-push.ensures.ok, c.in_ok-section_at.ensures, c.row_length-length.ensures)
          (sections_turn tracks c.loop-place.place count c.loop-place.start c.loop-place.sections _
          (omega arith) c.loop-place.invariant.told);
      sum = omega (arith, more, c.row_length-length.ensures, c.loop-place.invariant.sum);
    }

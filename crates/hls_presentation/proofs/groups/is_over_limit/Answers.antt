use Rattle.std.proofs.Common.{◌≡◌, ◌<◌, ◌^◌, false, ap, sym, ◌∙◌, arith}
use Rattle.std.specs.List.{list_any, sum_by}
use Rattle.hls_presentation.specs.Sections.{is_too_long, row_at, row_length, rows_of}
use Rattle.hls_presentation.proofs.Rows.{count_rows, length_next, many_if, no_rows, short_next}
use Rattle.hls_presentation.proofs.groups.is_over_limit.Goals as goal

pub loop-place-preserved : goal.loop-place-preserved
loop-place-preserved c =
    let tracks = c.args.tracks.now in
    let place = c.loop-place.place in
    let count = c.section_count-count.result in
    let short : row_length (row_at tracks place) < 2 ^ 63 = omega (arith, c.row_length-length.ensures) in
    record {
      long = sym (short_next tracks place count (omega arith) short) ∙ c.loop-place.invariant.long;
      total = omega (arith, length_next tracks place count (omega arith), c.row_length-length.ensures, c.loop-place.invariant.total);
      bounded = omega (arith, c.loop-place.invariant.bounded);
    }

pub returns-else-total-ge10000000000000000000 : goal.returns-else-total-ge10000000000000000000
returns-else-total-ge10000000000000000000 c =
    let tracks = c.args.tracks.now in
    let done = no_rows tracks c.loop-place.place c.section_count-count.result (omega arith) in
    let short : list_any is_too_long (rows_of tracks) ≡ false = sym c.loop-place.invariant.long ∙ ap (list_any is_too_long) done in
    many_if (rows_of tracks) c.section_count-count.result short (omega (arith, c.loop-place.invariant.total, ap (sum_by row_length) done))
    (count_rows tracks ∙ sym c.section_count-count.ensures)

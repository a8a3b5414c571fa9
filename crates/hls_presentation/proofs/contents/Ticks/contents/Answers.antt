use Rattle.hls_presentation.proofs.contents.Ticks.contents.Goals as goal
use Rattle.std.proofs.{Common.{sym, ◌∙◌, arith}, lemmas.Result.err_from_is_err_and}
use Rattle.hls_presentation.specs.{Presenting.content_of, Sections.section_count}
use Rattle.hls_presentation.proofs.{Rows.short_later, Turns.{contents_done, contents_stop, rows_turn}}

pub returns-in_err-add_row : goal.returns-in_err-add_row
returns-in_err-add_row c =
    let fault = err_from_is_err_and c.from_residual.result c.from_residual.ensures.1 in
    rw (fault.1, fault.2) (contents_stop c.args.self.nanos c.args.tracks.now c.loop-place.place
    (section_count c.args.tracks.now) c.loop-place.contents _ c.in_err-add_row.field-0.0
    (omega arith) c.in_err-add_row.ensures c.loop-place.invariant.told)

pub loop-place-preserved : goal.loop-place-preserved
loop-place-preserved c =
    let tracks = c.args.tracks.now in
    let count = section_count tracks in
    record {
      short = short_later tracks c.loop-place.place count (omega arith) c.loop-place.invariant.short;
      told = sym (rows_turn (content_of c.args.self.nanos) tracks c.loop-place.place count c.loop-place.contents c.add_row.new.contents
          (omega arith) c.in_ok-add_row.ensures) ∙ c.loop-place.invariant.told;
    }

pub returns : goal.returns
returns c = contents_done c.args.self.nanos c.args.tracks.now c.loop-place.place (section_count c.args.tracks.now) c.loop-place.contents _
    (omega arith) c.loop-place.invariant.told

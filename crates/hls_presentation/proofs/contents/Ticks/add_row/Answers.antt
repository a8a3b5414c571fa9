use Rattle.hls_presentation.proofs.contents.Ticks.add_row.Goals as goal
use Rattle.std.proofs.{Common.{◌≡◌, ◌<◌, ◌+◌, max, length, drop, get_or, sym, ap, ◌∙◌, arith}, lemmas.List.drop_more}
use Rattle.hls_presentation.specs.{Presenting.content_of, Sections.{group_at, length_of, row_at, row_length}}
use Rattle.hls_presentation.proofs.Turns.{row_turn}

pub loop-track-preserved : goal.loop-track-preserved
loop-track-preserved c =
    let within : c.loop-track.track-index < length c.args.tracks.now = omega arith in
    let more : row_length (row_at (drop c.loop-track.track-index c.args.tracks.now) c.args.place)
    ≡ max (length_of (group_at c.args.place (get_or c.args.tracks.now c.loop-track.track-index c.track-item.result)))
    (row_length (row_at (drop (c.loop-track.track-index + 1) c.args.tracks.now) c.args.place)) =
    ap (λ tracks. row_length (row_at tracks c.args.place))
    (drop_more c.args.tracks.now c.loop-track.track-index c.track-item.result within) in
    record {
      short = omega (arith, more, c.loop-track.invariant.short);
      told = rw c.in_ok-push.ensures.ok
          (sym (row_turn (content_of c.args.self.nanos) c.args.tracks.now c.loop-track.track-index c.args.place c.track-item.result
          c.loop-track.contents c.in_ok-content.content
          within (sym c.track-item.is) (rw c.at.ensures at c.in_ok-content.ensures)) ∙ c.loop-track.invariant.told);
    }

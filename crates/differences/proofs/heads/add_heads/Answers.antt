use Rattle.std.proofs.Common.{◌+◌, ◌∙◌, [], ap, arith, drop, sym}
use Rattle.differences.specs.{Collecting.{added, all_added}, Heads.heads_from}
use Rattle.differences.proofs.Extras.{next_extra}
use Rattle.differences.proofs.heads.add_heads.Goals as goal

pub loop-track-2-preserved : goal.loop-track-2-preserved
loop-track-2-preserved c =
    let ys = c.args.playlists.now in let t = c.loop-track-2.track in let found = c.loop-track-2.found in
    c.loop-track-2.invariant ∙ next_extra t ys found (omega arith)
    ∙ ap (λ d. all_added d (heads_from (t + 1) [] (drop (t + 1) ys))) (sym (c.in_ok-add.ensures ∙ ap (added found) c.of_track.ensures))

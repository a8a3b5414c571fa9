use Rattle.hls_follow.proofs.stretches.Stretches.of.Goals as goal
use Rattle.std.proofs.{Common.{◌≡◌, length, min, ap, ◌∙◌, refl, arith, drop, take}, lemmas.List.{drop_min, take_min}}
use Rattle.hls_follow.specs.Stretches.{stretch_of}
use Rattle.hls_follow.proofs.Stretching.{mapped_turn, next_stretch}

pub loop-place-preserved : goal.loop-place-preserved
loop-place-preserved c =
    let l = c.loop-place in let segments = c.at-segments.result.now in let left = l.left.now in
    let count : c.min.result ≡ min (length segments) (length left) = omega arith in
    let own = c.split_at.ensures.front ∙ ap (λ n. take n left) count ∙ take_min (length segments) left in
    let later = c.split_at.ensures.back ∙ ap (λ n. drop n left) count ∙ drop_min (length segments) left in
    rw later (mapped_turn stretch_of l.stretches.items _ _ _ _ _ _ c.in_ok-push.ensures.items (rw own refl)
    (next_stretch c.args.groups.now l.place left segments (omega (arith, c.len-place-end.ensures)) c.at-segments.ensures) l.invariant)

use Rattle.hls_follow.proofs.rules.appended_by.Goals as goal
use Rattle.std.proofs.Common.{◌≡◌, ℕ, ◌+◌, length, ap, arith}
use Rattle.std.specs.Option.{option_copied}
use Rattle.hls_follow.specs.Rules.{new_segments}
use Rattle.hls_follow.proofs.{Counting.{appended_next, count_next, new_fewer}, Keeping.lent_at}

pub loop-source-preserved : goal.loop-source-preserved
loop-source-preserved c =
    let l = c.loop-source in
    let formers = c.args.formers.now in
    let kept = c.args.kept.now in
    let source = c.source-item.result in
    let former = option_copied c.get.result in
    let next = appended_next kept l.source-index source c.loop-source-test.true c.source-item.is formers l.place former
    (lent_at formers l.place c.get.result c.get.ensures.lookup) in
    let all = count_next kept l.source-index source c.loop-source-test.true c.source-item.is in
    let listed : length c.new_segments.result.now ≡ length (new_segments former source.media.now) = ap length c.new_segments.ensures in
    record {
      place = ap (λ (n : ℕ). n + 1) l.invariant.place;
      told = omega (arith, next, listed, l.invariant.told);
      few = omega (arith, all, listed, new_fewer former source.media.now, l.invariant.few);
    }

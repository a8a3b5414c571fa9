use Rattle.hls_follow.proofs.snapshot.Snapshot.periods_of.Goals as goal
use Rattle.std.proofs.{Common.{◌≡◌, length, arith}, lemmas.List.Elements.{All-drop, All-push}}
use Rattle.dash_writer.specs.declared.live.LivePeriod.{LivePeriod}
use Rattle.hls_follow.specs.{Kept.HasScales, OwnTimes.snapshot_of, Ticks.IsWhole}
use Rattle.hls_follow.proofs.TimedPeriods.{row_less, turn}

pub loop-place-preserved : goal.loop-place-preserved
loop-place-preserved c =
    let l = c.loop-place in let s = snapshot_of c.args.self.now in let period = c.in_ok-period in
    let row = row_less (length s.sections) l.place (length s.tracks) c.loop-place-test.true in
    record {
      near = omega (arith, c.end_of-former.ensures.near);
      many = omega (arith, row, c.split_at.ensures.back_len, l.invariant.many);
      whole = rw c.split_at.ensures.back (All-drop IsWhole (length s.tracks) l.rest.now l.invariant.whole);
      told = rw (c.in_ok-push.ensures.ok, c.end_of-former.ensures.end, c.split_at.ensures.back)
          (turn s l.former l.place l.rest.now l.periods period.period _ c.loop-place-test.true
          (rw c.split_at.ensures.front at period.ensures.period) l.invariant.told);
      filled = rw c.in_ok-push.ensures.ok (All-push (λ (p : LivePeriod). length p.runs ≡ length s.tracks) l.periods period.period
          l.invariant.filled period.ensures.filled);
      scaled = rw c.in_ok-push.ensures.ok (All-push HasScales l.periods period.period l.invariant.scaled period.ensures.scaled);
    }

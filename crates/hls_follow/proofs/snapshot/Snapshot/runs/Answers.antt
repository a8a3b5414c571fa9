use Rattle.hls_follow.proofs.snapshot.Snapshot.runs.Goals as goal
use Rattle.std.proofs.{Common.{◌+◌, ◌*◌, ◌≤◌, arith, length}, Math.Nat.mul-le-mul_right, lemmas.List.Elements.All-drop}
use Rattle.std.proofs.lemmas.Result.{err_from_is_err_and}
use Rattle.fragment_times.specs.Times.{IsScaled}
use Rattle.hls_follow.specs.OwnTimes.{snapshot_of}
use Rattle.hls_follow.proofs.Spotted.{row_refused, row_told}

pub returns-in_err-runs-clause-runs : goal.returns-in_err-runs-clause-runs
returns-in_err-runs-clause-runs c =
    let l = c.loop-place in
    let fault = err_from_is_err_and c.from_residual.result c.from_residual.ensures.1 in
    rw (fault.1, fault.2)
    (row_refused (snapshot_of c.args.self.now) l.place l.rest.now c.split_at.result.0.now c.split_at.result.1.now l.runs _
    c.loop-place-test.true c.split_at.ensures.front c.split_at.ensures.back l.invariant.told c.in_err-runs.field-0.0
    c.in_err-runs.ensures.runs)

pub loop-place-preserved : goal.loop-place-preserved
loop-place-preserved c =
    let l = c.loop-place in
    let s = snapshot_of c.args.self.now in
    let tracks = length s.tracks in
    let row : (l.place + 1) * tracks ≤ length s.sections * tracks = mul-le-mul_right tracks (omega arith) in
    record {
      whole = c.in_ok-runs.ensures.whole;
      scaled = rw c.split_at.ensures.back (All-drop IsScaled tracks l.rest.now l.invariant.scaled);
      left = omega (arith, row, l.invariant.left, c.split_at.ensures.back_len);
      filled = omega (arith, row, l.invariant.left, l.invariant.filled, c.in_ok-runs.ensures.filled, c.split_at.ensures.front_len);
      told = row_told s l.place l.rest.now c.split_at.result.0.now c.split_at.result.1.now l.runs _ c.loop-place-test.true
          c.split_at.ensures.front c.split_at.ensures.back l.invariant.told c.in_ok-runs.runs c.in_ok-runs.ensures.runs;
    }

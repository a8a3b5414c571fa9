use Rattle.mpd_presentation.proofs.shared.Shared.of.Goals as goal
use Rattle.std.proofs.{Common.{◌≡◌, [], drop, arith, append-nil}, lemmas.List.drop_all}

pub returns : goal.returns
returns c =
    let all = c.timelines-lists.result.now in
    let none : drop c.loop-entries.entries-index all ≡ [] =
    drop_all c.loop-entries.entries-index all (omega (arith, c.loop-entries-test.false)) in
    record {
      timelines = rw (← c.timelines-lists.ensures, ← append-nil c.loop-entries.timelines.items)
          (c.loop-entries.invariant [] (rw none tt));
    }

use Rattle.hls_follow.proofs.snapshot.Snapshot.times.Goals as goal
use Rattle.hls_follow.proofs.Snapshots.{scaled_in}

pub with_section-requires-clause-known : goal.with_section-requires-clause-known
with_section-requires-clause-known g c =
    rw c.period_in-known.ensures (scaled_in _ c.args.self.now.periods.now c.requires.known)

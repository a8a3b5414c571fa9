use Rattle.std.proofs.Common.{refl}
use Rattle.bridge_playlists.specs.Places.{store_place_of}
use Rattle.bridge_steps.proofs.{Grown.none_grown, Unplaced.{stays, unplaced_worked}}
use Rattle.bridge_reach.specs.TimedRounds.{timed_at, timed_course}
use Rattle.bridge_reach.proofs.follow_hls.run_follow_hls_times.Goals as goal

pub returns-clause-runs : goal.returns-clause-runs
unfolding timed_course
returns-clause-runs g c =
    let job = c.args.job in let files = g.F.Store.files c.args.store.now in let input = g.I.Source.remaining c.args.input.now in record {
      work = unplaced_worked (store_place_of job.base job.master) (timed_at job files input) c.in-Err.told _ c.in-Err.ensures;
      never_falls = stays _;
      told = none_grown _ _ refl;
    }

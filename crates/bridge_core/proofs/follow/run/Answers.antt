use Rattle.bridge_core.proofs.follow.run.Goals as goal
use Rattle.std.proofs.Common.{refl, ap, ◌∙◌}
use Rattle.bridge_playlists.{proofs.Places.folder_is_base, specs.Places.store_place_of}
use Rattle.bridge_steps.specs.Playlists.{base_if}
use Rattle.bridge_steps.proofs.{Grown.none_grown, Unplaced.{placed_worked, stays, unplaced_caused, unplaced_worked}}
use Rattle.bridge_core.specs.Follow.{follow_at, followed_course}

pub returns-in-Ok-clause-runs : goal.returns-in-Ok-clause-runs
unfolding followed_course
returns-in-Ok-clause-runs g c =
    let job = c.args.job in
    let based = c.base_if.ensures ∙ ap (base_if job.addresses) (folder_is_base job.base job.name c.in-Ok.place c.in-Ok.ensures) in
    let ends = rw based at c.follow.ensures.runs in record {
      work = placed_worked (store_place_of job.base job.name) c.in-Ok.place (follow_at job (g.I.Source.remaining c.args.input.now))
          c.follow.result _ _ c.in-Ok.ensures ends.work;
      never_falls = ends.never_falls;
      told = ends.told;
    }

pub returns-in-Err-clause-runs : goal.returns-in-Err-clause-runs
unfolding followed_course
returns-in-Err-clause-runs g c = let job = c.args.job in record {
  work = unplaced_worked (store_place_of job.base job.name) (follow_at job (g.I.Source.remaining c.args.input.now)) c.in-Err.told _
      c.in-Err.ensures;
  never_falls = stays _;
  told = none_grown _ _ refl;
}

pub returns-in-Err-clause-caused : goal.returns-in-Err-clause-caused
returns-in-Err-clause-caused g c =
    unplaced_caused (store_place_of c.args.job.base c.args.job.name) c.in-Err.told _ c.in-Err.ensures

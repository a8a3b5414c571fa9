use Rattle.live_session.proofs.change.maker_of.Goals as goal
use Rattle.std.proofs.Common.{◌∙◌, refl}
use Rattle.live_session.proofs.NewTracks.{resets_at, places}

pub returns-clause-made_for : goal.returns-clause-made_for
returns-clause-made_for c = let n = c.args.next.now in record {
  force = refl;
  digits = refl;
  resets = c.resets_with.ensures ∙ resets_at n.coming n.now (n.standing.now).resets;
  start = c.requires.next.live.starts;
  places = places n c.requires.next;
}

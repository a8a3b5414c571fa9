use Rattle.bridge_jobs.proofs.Follows.{places}
use Rattle.bridge_jobs.proofs.laws.places_are_of_the_stream.Goals as goal

pub returns : goal.returns
returns c = places

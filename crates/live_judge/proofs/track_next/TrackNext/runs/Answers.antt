use Rattle.live_judge.proofs.track_next.TrackNext.runs.Goals as goal
use Rattle.presentation.specs.Presented.{start_of}
use Rattle.live_judge.specs.Coming.{p_of}
use Rattle.live_judge.proofs.Contents.{index_within, reached_there}

pub runs-requires-clause-track : goal.runs-requires-clause-track
runs-requires-clause-track c = index_within c.args.self.now c.requires.next

pub returns-clause-fits : goal.returns-clause-fits
returns-clause-fits c = c.runs.ensures.fits_from (c.args.self.now.next.now).now (start_of (p_of c.args.self.now.next.now) c.args.section)

pub returns-clause-reached : goal.returns-clause-reached
returns-clause-reached c = reached_there c.args.self.now c.requires.next c.args.section c.runs.result.now c.requires.section
    c.runs.ensures.content

use Rattle.timeline.proofs.runs.Runs.ended_by.Goals as goal

pub returns-in-Some : goal.returns-in-Some
returns-in-Some c = cc (c.ended_by.ensures, c.in-Some.ensures.ended)

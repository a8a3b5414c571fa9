use Rattle.segment_forms.proofs.steps.pattern_so_far.Goals as goal

pub returns-in-Followed-clause-placed : goal.returns-in-Followed-clause-placed
returns-in-Followed-clause-placed c = c.requires c.in-Followed.pattern c.in-Followed.next c.in-Followed.is

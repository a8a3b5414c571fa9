use Rattle.dash_writer.proofs.times.SegmentRun.go_on.Goals as goal
use Rattle.dash_writer.proofs.times.SegmentRun.go_on.Goals.{else-joined-via-then-joined+else-duration-self, else-joined-via-else-joined}
use Rattle.std.proofs.{Common.{◌==◌, inl, inr}, lemmas.Bool.{cases_Bool, eqb-true}}
use Rattle.dash_writer.proofs.Nodes.{adds_fails}

pub returns-in_err-push_to-clause-adds : goal.returns-in_err-push_to-clause-adds
returns-in_err-push_to-clause-adds g c = let run = c.args.self in
    let fails = adds_fails c.from_residual.result c.from_residual.ensures.1 c.in_err-push_to.ensures in
    elim c.else-joined.branch [
      | else-joined-via-then-joined+else-duration-self w ↦ elim (cases_Bool (c.args.duration == run.duration)) [
        | inl is ↦ absurd (w.if-duration-self.false (eqb-true c.args.duration run.duration is))
        | inr isnt ↦ rw (w.if-joined.true, isnt) fails
      ]
      | else-joined-via-else-joined w ↦ rw w.if-joined.false fails
    ]

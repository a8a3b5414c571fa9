use Rattle.std.proofs.Common.{sym, ◌∙◌}
use Rattle.timeline.proofs.Reached.{media_more, rest_new}
use Rattle.timeline.proofs.media_runs.MediaRuns.of.Goals as goal

pub loop-entry-preserved : goal.loop-entry-preserved
loop-entry-preserved c =
    let rest = sym c.loop-entry.invariant.1 ∙ c.in-Some.ensures.cases.0 in (
      media_more c.args.entries.now c.loop-entry.media c.push.new.self c.in-Some.entry.now c.in-Some.later.now c.in-Some-next_run.next
          c.loop-entry.invariant.0 rest c.in-Some-next_run.ensures c.in_ok-push.ensures,
      rest_new c.args.entries.now c.loop-entry.media c.push.new.self c.in-Some.entry.now c.in-Some.later.now c.in-Some-next_run.next
          c.loop-entry.invariant.0 rest c.in-Some-next_run.ensures c.in_ok-push.ensures,
    )

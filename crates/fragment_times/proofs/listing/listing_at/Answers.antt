use Rattle.std.proofs.Common.{◌∙◌}
use Rattle.fragment_times.proofs.Listed.{are_addressed, is_reached, listed_whole}
use Rattle.fragment_times.proofs.listing.listing_at.Goals as goal

pub seek-requires-clause-reached : goal.seek-requires-clause-reached
seek-requires-clause-reached c =
    is_reached c.args.presentation.now c.args.section c.args.track c.runs-runs.result.now c.runs-runs.ensures.content
    c.closed_ends.ensures.reached c.requires.listable.ended c.window-window.result

pub resume-requires-clause-reached : goal.resume-requires-clause-reached
resume-requires-clause-reached c =
    is_reached c.args.presentation.now c.args.section c.args.track c.runs-runs.result.now c.runs-runs.ensures.content
    c.closed_ends.ensures.reached c.requires.listable.ended c.window-window.result

pub returns-clause-left : goal.returns-clause-left
returns-clause-left c =
    c.resume.ensures.segments
    ∙ listed_whole c.args.presentation.now c.args.section c.args.track c.runs-runs.result.now c.runs-runs.ensures.content
    c.window-window.result c.seek.result c.window-window.ensures c.seek.ensures.first

pub returns-clause-addressed : goal.returns-clause-addressed
returns-clause-addressed c =
    let p = c.args.presentation.now in
    let all = are_addressed p c.args.section c.args.track c.runs-runs.result.now c.runs-runs.ensures.content
    (c.requires.listable.addressed c.args.section c.args.track c.requires.section c.requires.track) in
    let left = c.resume.ensures.segments
    ∙ listed_whole p c.args.section c.args.track c.runs-runs.result.now c.runs-runs.ensures.content
    c.window-window.result c.seek.result c.window-window.ensures c.seek.ensures.first in
    rw (c.resume.ensures.timeline, left) all

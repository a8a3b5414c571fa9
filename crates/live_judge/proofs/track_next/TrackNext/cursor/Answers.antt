use Rattle.live_judge.proofs.track_next.TrackNext.cursor.Goals as goal
use Rattle.std.proofs.Common.{arith, rules}
use Rattle.presentation.specs.Presented.{window_of}
use Rattle.live_judge.specs.Coming.{p_of}
use Rattle.live_judge.proofs.Contents.{cursor_behind, cursor_first, none_before}

pub returns-then-self : goal.returns-then-self
returns-then-self c =
    c.requires.next.next.quiet (search rules) c.args.self.now.index c.args.self.now.track.now c.requires.next.there c.args.section
    c.requires.section

pub returns-then-place-last : goal.returns-then-place-last
returns-then-place-last c = none_before c.args.self.now c.args.section c.last-last.result c.last-last.ensures.last
    c.last-last.ensures.place (omega arith)

pub returns-then-place-last-2 : goal.returns-then-place-last-2
returns-then-place-last-2 c =
    cursor_behind c.args.self.now c.args.section c.runs.result.now c.runs.ensures.content c.last-last.result c.last-last.ensures.last
    c.last-last.ensures.place c.seek_end.result
    (omega arith) (c.seek_end.ensures (window_of (p_of c.args.self.now.next.now) c.args.section) c.runs.ensures.fits c.runs.ensures.reached)

pub returns : goal.returns
returns c =
    cursor_first c.args.self.now c.args.section c.runs-2.result.now c.runs-2.ensures.content c.last-last.result c.last-last.ensures.last
    c.last-last.ensures.place c.seek.result
    c.window.result c.window.ensures (omega arith) c.seek.ensures.first.none_before

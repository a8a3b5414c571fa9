use Rattle.live_judge.proofs.track_next.TrackNext.rewritten.Goals as goal
use Rattle.std.proofs.Common.{◌≡◌, ◌+◌, ◌-◌, ◌<◌, List, None, true, All, length, reverse, refl, sym, ◌∙◌, ap, subst, arith}
use Rattle.exact_time.specs.Time.{IsTime}
use Rattle.timeline.specs.{declared.window.Window.Window, Expansions.Timing, Listed.{expansion, is_until, listed}}
use Rattle.live_meaning.specs.{Segments.{times_of, timing_of}, Refusals.{expansion_at, first_other, rewritten_by}}
use Rattle.live_judge.specs.{Blocks.in_block, Coming.p_of, Shown.kept_of}
use Rattle.live_judge.proofs.{Blocks.{block_long, segment_at, time_at}, Holding.{held_last, rewritten_is, within_are}}
use Rattle.live_judge.proofs.Rewriting.{expansion_is, segment_there, until_there}

pub returns : goal.returns
returns c =
    let l = c.args.self.now in
    let track = l.track.now in
    let block = c.args.block in
    let inside = c.requires.block.inside in
    let olds = times_of (in_block block track) in
    let w : Window = record { after = None; until = c.window.result.until } in
    let xs = expansion c.runs.result.now w in
    let one = kept_of c.get.result.0.now c.get.result.1.now in
    let other = kept_of c.get-2.result.0.now c.get-2.result.1.now in
    let first = timing_of one.segment in
    let last = timing_of other.segment in
    let some : block.begin < block.end = omega (arith, inside.rises, c.if-block.false) in
    let long = block_long block track inside in
    let place : length olds - 1 ≡ block.end - block.begin - 1 = omega (arith, long) in
    let at_first = time_at block track inside 0 block.begin one (omega arith) (omega (arith, some)) c.get.ensures in
    let at_last = rw (← place) at (time_at block track inside (block.end - block.begin - 1) (block.end - 1) other (omega (arith, some))
    (omega (arith, some)) c.get-2.ensures) in
    let begins = (segment_there l c.requires.next block.begin one.segment (segment_at track block.begin one c.get.ensures)).listed in
    let there = segment_at track (block.end - 1) other c.get-2.ensures in
    let within : is_until w.until last.end ≡ true =
    ap (λ (v : Window). is_until v.until last.end) c.window.ensures
    ∙ until_there l c.requires.next c.args.section c.requires.section c.requires.unmoved (block.end - 1) other.segment there
    (c.requires.block.last other.segment some there) in
    let same : expansion_at (p_of l.next.now) l.index c.args.section ≡ xs =
    expansion_is l c.requires.next c.args.section c.requires.section c.runs.result.now w c.closed_ends.ensures.until c.runs.ensures.content
    (ap (λ (v : Window). v.until) c.window.ensures) in
    let timed = subst (λ (ys : List Timing). All (λ x. IsTime x.end) ys) same (c.requires.timed l.index c.args.section) in
    c.last_other.ensures
    ∙ held_last first.end olds (listed w xs) last.end (c.len.result + 1) c.last_ended-ended.result
    (omega (arith, long, c.len.ensures)) c.last_ended-ended.ensures
    ∙ ap (λ (ys : List Timing). first_other (reverse olds) (reverse ys))
    (sym (within_are w first.end last.end refl begins (c.get-2.result.1.now.span.end).positive within xs timed))
    ∙ sym (rewritten_is olds xs first last at_first at_last)
    ∙ ap (rewritten_by olds) (sym same)

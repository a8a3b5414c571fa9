use Rattle.timeline.proofs.shared_timeline.SharedTimeline.begin.Goals as goal
use Rattle.std.proofs.Common.{◌≡◌, true, false, List, ◌++◌, map, Some, None, ◌∙◌, sym, ap, subst, append-nil}
use Rattle.std.specs.{Prelude.Option, declared.rc.Rc.Rc, Global.Global}
use Rattle.timeline.specs.{declared.limits.Limits.Limits, declared.run.Run.Run, declared.shared_timeline.LaidTimeline.LaidTimeline}
use Rattle.timeline.specs.{declared.fault.TimeFault.TheVariants.Range, Faults.segment_fault, Limits.breaks_limits, Reaches.IsSoFar}
use Rattle.timeline.specs.{MediaTimelines.{are_passed, expansion_of_laid}, RunSegments.{placed_run, timed}, RunTables.{media_of, runs_at}}
use Rattle.timeline.proofs.Reached.{begun_so_far, passed_fault}

pub returns-then-are_passed : goal.returns-then-are_passed
returns-then-are_passed c = λ end.
    let t = c.self.inside.laid.value in
    let l = c.limits-limits.result in
    let passed : are_passed l t.media.longest t.media.former ≡ true = cc (c.deref.ensures, c.are_passed.ensures, c.if-are_passed.true) in
    subst (λ (x : LaidTimeline). segment_fault (breaks_limits c.args.scale.ticks c.args.scale.offset) None
    (expansion_of_laid c.args.scale end x) ≡ Some Range) c.self.view_is
    (passed_fault t c.self.invariant c.args.scale l (record {
      ticks = c.limits-limits.ensures.ticks;
      origin = c.limits-limits.ensures.origin;
    }) passed end)

pub returns : goal.returns
returns c = λ end.
    let t = c.self.inside.laid.value in
    let l = c.limits-limits.result in
    let b = c.upon.result in
    let u = c.upon.ensures in
    let same = c.in_ok-laid.ensures.cases in
    let kept : are_passed l t.media.longest t.media.former ≡ false = cc (c.deref.ensures, c.are_passed.ensures, c.if-are_passed.false) in
    let runs = ap (λ (k : Limits). runs_at k.ticks k.origin b.table) u.limits
    ∙ ap (λ (o : Option (Rc LaidTimeline Global)). map (placed_run l.ticks l.origin) (media_of o) ++ map timed b.table.own.items) u.laid
    ∙ ap (λ (xs : List Run). map (placed_run l.ticks l.origin) c.in_ok-laid.laid.value.media.runs.items ++ map timed xs) u.none
    ∙ append-nil (map (placed_run l.ticks l.origin) c.in_ok-laid.laid.value.media.runs.items)
    ∙ ap (λ (x : LaidTimeline). map (placed_run l.ticks l.origin) x.media.runs.items) same in
    subst (λ (x : LaidTimeline). IsSoFar c.args.scale end (expansion_of_laid c.args.scale end x) b c.rest.result.now) c.self.view_is
    (begun_so_far t c.self.invariant c.args.scale l (record {
      ticks = c.limits-limits.ensures.ticks;
      origin = c.limits-limits.ensures.origin;
    }) b c.rest.result.now u.limits runs (u.total ∙ ap (λ (x : LaidTimeline). x.media.total) same)
    (u.former ∙ ap (λ (x : LaidTimeline). x.media.former) same) u.closed
    (c.rest.ensures.rest ∙ ap (λ (x : LaidTimeline). x.rest) (sym c.self.view_is)) c.limits-limits.ensures.near
    (ap (λ (x : LaidTimeline). x.no_time) c.self.view_is ∙ c.requires.lasting) kept end)

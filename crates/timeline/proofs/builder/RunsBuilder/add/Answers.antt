use Rattle.timeline.proofs.builder.RunsBuilder.add.Goals as goal
use Rattle.std.proofs.{Common.{◌≡◌, ℕ, ◌+◌, ◌*◌, ◌<◌, ◌^◌, Option, pos, ◌+ℤ◌, refl, sym, ◌∙◌, ap, arith}, Math.Nat.mul-le-mul_right}
use Rattle.exact_time.specs.{Time.Time, Tick.time_of}
use Rattle.timeline.specs.{declared.builder.RunsBuilder.RunsBuilder, declared.run.Run.Run, declared.run_table.RunTable.RunTable}
use Rattle.timeline.specs.{Faults.segment_fault, Ratios.natural, RunSegments.timed, Building.{former_end, breaks_in, placed_in, extent_in}}
use Rattle.timeline.specs.Building.{runs_in}
use Rattle.timeline.proofs.{Judged.{run_breaks, run_passes, former_end-some, fault_of-none}, Laid.{IsFaultOf-run, from_fault, room_before}}
use Rattle.timeline.proofs.Laid.{room_after, capped, none_follows, members_after, extents_after, laid_after, IsRun-in, extents_of-in}
use Rattle.timeline.proofs.Laid.{timed-in, pushed_own}

pub returns-in_err-judge-clause-members : goal.returns-in_err-judge-clause-members
returns-in_err-judge-clause-members c = from_fault c.from_residual.result _ _ _ c.from_residual.ensures
    (IsFaultOf-run c.args.self.now c.args.start c.args.step c.args.count _ c.requires.some c.in_err-judge.ensures)

pub returns-then-are_broken-clause-members : goal.returns-then-are_broken-clause-members
returns-then-are_broken-clause-members c =
    let old = c.args.self.now in
    let least = mul-le-mul_right c.args.step c.requires.some in
    let product = ap (λ (n : ℕ). c.args.count * n) c.from.ensures in
    run_breaks old.limits c.args.start c.args.step c.args.count (c.args.start + c.min.result)
    (former_end old) old.limits.positive c.requires.some c.in_ok-judge.ensures
    (omega arith) (omega arith) (sym c.are_broken.ensures ∙ c.if-are_broken.true)

pub overflow_cast-count : goal.overflow_cast-count
overflow_cast-count c =
    let limits = c.args.self.now.limits in
    let kept = capped limits c.args.start c.min.result c.args.count c.args.step c.requires.lasting c.requires.some (cc) (cc) in
    record { fits = omega (arith, kept.2) }

pub placed-requires-2 : goal.placed-requires-2
placed-requires-2 c =
    let limits = c.args.self.now.limits in
    let kept = capped limits c.args.start c.min.result c.args.count c.args.step c.requires.lasting c.requires.some (cc) (cc) in
    omega (arith, c.from-3.ensures, kept.3)

pub overflow_add-self : goal.overflow_add-self
overflow_add-self c =
    let limits = c.args.self.now.limits in
    let kept = capped limits c.args.start c.min.result c.args.count c.args.step c.requires.lasting c.requires.some (cc) (cc) in
    record { fits = omega (arith, c.requires.laid.room, c.requires.laid.near, kept.2) }

pub returns : goal.returns
returns c =
    let old = c.args.self.now in
    let l = old.limits in
    let s = c.args.start in
    let d = c.args.step in
    let count = c.args.count in
    let kept = capped l s c.min.result count d c.requires.lasting c.requires.some (cc) (cc) in
    let x : Run = record { start = c.placed.result; end = c.placed-2.result; step = d; count = count; before = old.total } in
    let end_is : time_of c.placed-2.result ≡ placed_in l (s + d) =
    c.placed-2.ensures ∙ ap (λ (n : ℕ). placed_in l (s + n)) c.from-3.ensures in
    let table : RunTable = record { laid = old.table.laid; own = c.push.new.self } in
    let new : RunsBuilder =
    record { table = table; endless = old.endless; total = old.total + count; limits = l; former = s + c.min.result } in
    let pushed = pushed_own l.ticks l.origin old.table table x refl c.in_ok-push.ensures.items in
    let same = extents_of-in l s d count (timed x) c.placed.ensures end_is refl refl in
    let first = fault_of-none l (former_end old) (extent_in l s d) c.in_ok-judge.ensures in
    let room = room_after old.total s d count c.requires.lasting c.requires.some (room_before old s d first.1 c.requires.laid.room) in
    record {
      members = record {
        added = members_after (runs_in new) (runs_in old) (timed x) _ pushed same old.endless c.requires.closed;
        passed = λ later. run_passes l s d count (s + c.min.result) (former_end old) l.positive c.requires.some c.in_ok-judge.ensures
            (omega (arith, kept.0)) (sym c.are_broken.ensures ∙ c.if-are_broken.false) later
            ∙ ap (λ (f : Option Time). segment_fault (breaks_in l) f later)
            (sym (former_end-some new (omega (arith, c.requires.some))));
      };
      limits = refl;
      former = omega (arith, kept.0);
      closed = c.requires.closed;
      laid = record {
        laid = record {
          laid = laid_after (runs_in new) (runs_in old) (timed x) _ pushed same old.total count refl c.requires.laid.laid.laid refl
              c.requires.some (IsRun-in l s d count (timed x) c.placed.ensures end_is refl refl c.requires.lasting c.requires.some kept.1
              (omega (arith, kept.1, room)) c.placed.result.bounded c.placed-2.result.bounded);
          follows = none_follows l.ticks l.origin (old.total + count) old.endless c.requires.closed;
          countable = omega (arith, kept.1, room);
          timed = extents_after (runs_in new) (runs_in old) (timed x) _ pushed same
              (λ y. natural (y.start.ticks +ℤ pos l.origin) < 2 ^ 64) c.requires.laid.laid.timed
              (timed-in l d count s (omega (arith, kept.1)));
        };
        room = omega (arith, kept.0, room);
        near = omega (arith, kept.0, kept.1);
      };
    }

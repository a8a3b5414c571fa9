use Rattle.box_reader.proofs.boxes.Boxes.count.Goals as goal
use Rattle.std.specs.Prelude.{count_by}
use Rattle.std.proofs.Common.{◌≡◌, None, Ok, Err, sym, ap, ◌∙◌, arith}
use Rattle.box_reader.specs.Boxes.{Walk, next_of}
use Rattle.box_reader.proofs.{Counts.left_behind, Walks.{boxes_broken, boxes_end}}

pub walk-smaller : goal.walk-smaller
walk-smaller g c =
    let new = left_behind (g.T.BoxTest.passes c.args.test.now) c.walk.self c.next_box.new.self c.in-Ok-Some.found
    (cc (c.in-Ok-Some.ensures.found)) c.in-Ok-Some.ensures.left in
    omega (arith, new.fewer)

pub walk-smaller-then-passes : goal.walk-smaller-then-passes
walk-smaller-then-passes g c =
    let new = left_behind (g.T.BoxTest.passes c.args.test.now) c.walk.self c.next_box.new.self c.in-Ok-Some.found
    (cc (c.in-Ok-Some.ensures.found)) c.in-Ok-Some.ensures.left in
    omega (arith, new.fewer)

pub walk-preserved : goal.walk-preserved
walk-preserved g c =
    let new = left_behind (g.T.BoxTest.passes c.args.test.now) c.walk.self c.next_box.new.self c.in-Ok-Some.found
    (cc (c.in-Ok-Some.ensures.found)) c.in-Ok-Some.ensures.left in
    record {
      count = omega (arith, new.none (sym c.if-passes.ensures), c.walk.invariant.count);
      fault = sym new.fault ∙ c.walk.invariant.fault;
      room = omega (arith, new.fewer, c.walk.invariant.room);
    }

pub walk-preserved-then-passes : goal.walk-preserved-then-passes
walk-preserved-then-passes g c =
    let new = left_behind (g.T.BoxTest.passes c.args.test.now) c.walk.self c.next_box.new.self c.in-Ok-Some.found
    (cc (c.in-Ok-Some.ensures.found)) c.in-Ok-Some.ensures.left in
    record {
      count = omega (arith, new.one (sym c.if-passes.ensures), c.walk.invariant.count);
      fault = sym new.fault ∙ c.walk.invariant.fault;
      room = omega (arith, new.fewer, c.walk.invariant.room);
    }

pub returns-in-Ok-None-clause-count : goal.returns-in-Ok-None-clause-count
returns-in-Ok-None-clause-count g c =
    let next : next_of c.walk.self ≡ Ok None = cc (c.in-Ok-None.ensures.found) in
    let none = ap (λ (w : Walk). count_by (g.T.BoxTest.passes c.args.test.now) w.boxes) (boxes_end c.walk.self next) in
    omega (arith, none, c.walk.invariant.count)

pub returns-in-Ok-None-clause-fault : goal.returns-in-Ok-None-clause-fault
returns-in-Ok-None-clause-fault g c =
    let next : next_of c.walk.self ≡ Ok None = cc (c.in-Ok-None.ensures.found) in
    sym (ap (λ (w : Walk). w.fault) (boxes_end c.walk.self next)) ∙ c.walk.invariant.fault

pub returns-in-Err-clause-count : goal.returns-in-Err-clause-count
returns-in-Err-clause-count g c =
    let next : next_of c.walk.self ≡ Err c.in-Err.fault = cc (c.in-Err.ensures.found) in
    let none = ap (λ (w : Walk). count_by (g.T.BoxTest.passes c.args.test.now) w.boxes) (boxes_broken c.walk.self c.in-Err.fault next) in
    omega (arith, none, c.walk.invariant.count)

pub returns-in-Err-clause-fault : goal.returns-in-Err-clause-fault
returns-in-Err-clause-fault g c =
    let next : next_of c.walk.self ≡ Err c.in-Err.fault = cc (c.in-Err.ensures.found) in
    sym (ap (λ (w : Walk). w.fault) (boxes_broken c.walk.self c.in-Err.fault next)) ∙ c.walk.invariant.fault

use Rattle.fragment_times.proofs.part.pass.Goals as goal
use Rattle.std.proofs.{Common.{length, ap, ◌∙◌, arith}, lemmas.List.length-drop}
use Rattle.box_reader.specs.Boxes.{Left, behind}
use Rattle.box_reader.proofs.Walks.{next_fits}
use Rattle.fragment_times.proofs.Passed.{further, is_found, one_more}

pub returns-then-is_of-clause-found : goal.returns-then-is_of-clause-found
returns-then-is_of-clause-found c = λ _.
    let l = c.loop-found in
    is_found c.fronts_tell.ensures c.args.kind c.args.first l.from c.args.bytes.now c.in-Some.found l.invariant.within
    (rw l.invariant.left at c.in-Some.ensures.next) c.in-Some.ensures.before (cc)

pub loop-found-smaller : goal.loop-found-smaller
loop-found-smaller c =
    let boxes = c.loop-found.boxes in let size = c.in-Some.found.head.size in
    let fits = next_fits boxes c.in-Some.found c.in-Some.ensures.next in
    omega (
      arith,
      ap (λ (b : Left). length b.bytes) c.in-Some.ensures.left,
      length-drop size boxes.bytes,
      fits.least,
      fits.header,
      fits.within,
    )

pub loop-found-preserved : goal.loop-found-preserved
loop-found-preserved c =
    let l = c.loop-found in let found = c.in-Some.found in
    let fits = next_fits l.boxes found c.in-Some.ensures.next in
    rw c.head.ensures.head (record {
      within = omega (
        arith,
        l.invariant.within,
        fits.within,
        ap (λ (b : Left). length b.bytes) l.invariant.left,
        length-drop l.from c.args.bytes.now,
      );
      left = c.in-Some.ensures.left ∙ ap (behind found.head) l.invariant.left ∙ further c.args.first l.from c.args.bytes.now found.head;
      passed = one_more c.fronts_tell.ensures c.args.kind c.args.first l.from c.args.bytes.now found l.invariant.within
          (rw l.invariant.left at c.in-Some.ensures.next) c.in-Some.ensures.before (cc) l.invariant.passed;
    })

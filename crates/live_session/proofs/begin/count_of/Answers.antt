use Rattle.live_session.proofs.begin.count_of.Goals as goal
use Rattle.std.proofs.Common.{◌+◌, ℕ, List, ap, arith, flat_map, length, length-append}
use Rattle.timeline.specs.Expansions.{Timing}
use Rattle.presentation.{specs.Presented.listed_at, proofs.Counts.{from_on, from_on-first}}

pub loop-section-preserved : goal.loop-section-preserved
loop-section-preserved c = let s = c.loop-section.section in let n = length c.args.opened.now.sections in
    let f : ℕ → List Timing = λ s. listed_at c.args.opened.now s c.args.track in
    let same = ap (λ xs. length xs) c.sections.ensures in
    let first = ap (λ ss. length (flat_map f ss)) (from_on-first s n (omega arith)) in
    let parts = length-append (f s) (flat_map f (from_on (s + 1) n)) in
    record {
      left = omega (arith, c.loop-section.invariant.left, first, parts, c.count_in.ensures, c.from-count.ensures);
      fits = let fits = c.loop-section.invariant.fits in omega (arith, fits, c.from-count.ensures);
    }
